use Rattle.std.proofs.Common.{refl, map}
use Rattle.std.specs.Prelude.{option_map}
use Rattle.static_compiler.specs.Frames.{layers_if}
use Rattle.static_compiler.specs.Views.{maker_of}
use Rattle.static_compiler.proofs.Begun.{gates_opens}
use Rattle.static_compiler.proofs.opening.open_gates.Goals as goal

pub returns : goal.returns
returns c = gates_opens c.args.site.now c.args.choices.now _ _ c.add_chosen_twice.new.refusals.items c.put_choices.new.site _
    (layers_if (option_map (map maker_of) (option_map (λ v. v.items) c.in_ok-all.all))) c.of-mark.ensures c.layers_if-frame.ensures refl
    c.in_ok-add_chosen_twice.ensures c.in_ok-all.ensures.layers c.in_ok-all.ensures.site
