use Rattle.std.proofs.Common.{◌≡◌, map, take}
use Rattle.type_contents.specs.Numbering as numbering
use Rattle.type_contents.proofs.brought.needs_of.Given as goal

abbrev pub invariant-loop-definition : goal.invariant-loop-definition
invariant-loop-definition l = map (λ k. k.numbers.items) l.all.items ≡ map (numbering.needs l.types) (take l.definition-index l.types)
