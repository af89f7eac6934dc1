use Rattle.std.proofs.Common.{◌≡◌, map, None, take}
use Rattle.type_equation_copies.proofs.schedule.nothing_found.Given as goal

abbrev pub invariant-loop-definition : goal.invariant-loop-definition
invariant-loop-definition l = l.found.items ≡ map (λ _. None) (take l._definition-index l.types)
