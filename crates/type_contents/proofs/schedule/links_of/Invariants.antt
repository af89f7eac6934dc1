use Rattle.std.proofs.Common.{◌≡◌, map, take}
use Rattle.type_contents.specs.Uses.{links}
use Rattle.type_contents.proofs.schedule.links_of.Given as goal

abbrev pub invariant-loop-definition : goal.invariant-loop-definition
invariant-loop-definition l = map (λ k. k.numbers.items) l.all.items ≡ map (links l.types) (take l.definition-index l.types)
