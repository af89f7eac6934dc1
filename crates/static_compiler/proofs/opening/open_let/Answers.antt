use Rattle.std.proofs.Common.{refl, map}
use Rattle.std.specs.Prelude.{option_map}
use Rattle.spec_core.specs.Code.{binding_of}
use Rattle.static_compiler.proofs.Begun.{let_opens}
use Rattle.static_compiler.proofs.opening.open_let.Goals as goal

pub returns : goal.returns
returns c = let_opens c.args.site.now c.args.from.now _ _ c.add_bound_twice.new.refusals.items c.put_bindings.new.site _
    (option_map (map binding_of) (option_map (λ v. v.items) c.in_ok-found.found)) c.of-mark.ensures c.in_ok-frame.ensures refl
    c.in_ok-add_bound_twice.ensures c.in_ok-found.ensures c.in_ok-put_bindings.ensures
