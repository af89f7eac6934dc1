use Rattle.std.proofs.Common.{rules, ◌≡◌, ap, ◌∙◌, map, ◌++◌, ◌∷◌, [], Bool}
use Rattle.spec_core.specs.Theories.{operation_of}
use Rattle.spec_core.proofs.Lists.{map_map_next}
use Rattle.value_text.specs.Values.{is_shared}
use Rattle.value_text.proofs.vocabulary.flags.Goals as goal

pub loop-declaration-preserved : goal.loop-declaration-preserved
loop-declaration-preserved c =
    let pushed : c.push.new.self.items ≡ c.loop-declaration.flags.items ++ c.is_shared.result ∷ [] = search rules in
    map_map_next (is_shared (map operation_of c.args.declarations.now)) operation_of _
    _ c.args.declarations.now c.loop-declaration.declaration-index c.declaration-item.result c.loop-declaration-test.true c.declaration-item.is
    c.loop-declaration.invariant (pushed ∙ ap (λ (b : Bool). c.loop-declaration.flags.items ++ b ∷ []) c.is_shared.ensures)
