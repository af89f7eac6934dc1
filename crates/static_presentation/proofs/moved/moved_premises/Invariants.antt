use Rattle.std.proofs.Common.{◌≡◌, map, take}
use Rattle.spec_core.specs.Theories.{premise_of}
use Rattle.static_presentation.specs.Moved as moved
use Rattle.static_presentation.proofs.moved.moved_premises.Given as goal

abbrev pub invariant-loop-premise : goal.invariant-loop-premise
invariant-loop-premise l = map premise_of l.all.items ≡ map (moved.moved_premise l.operations) (map premise_of (take l.premise-index l.premises))
