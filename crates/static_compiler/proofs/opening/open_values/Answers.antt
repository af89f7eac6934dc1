use Rattle.std.proofs.Common.{refl, ap, map, ◌∙◌}
use Rattle.std.specs.Prelude.{option_map}
use Rattle.static_compiler.specs.Frames.{value_layer, layers_if}
use Rattle.static_compiler.proofs.Begun.{values_opens}
use Rattle.static_compiler.proofs.opening.open_values.Goals as goal

pub returns : goal.returns
returns c = values_opens c.args.site.now c.args.declared.now _ _ c.put_declared.new.site _ c.of-mark.ensures
    (c.in_ok-frame.ensures ∙ ap (λ vs. layers_if (option_map (map value_layer) vs)) c.in_ok-vars.ensures.variables) refl
    c.in_ok-add_declaration_refusals.ensures c.in_ok-vars.ensures.site
