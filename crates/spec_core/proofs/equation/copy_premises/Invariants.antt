use Rattle.std.proofs.Common.{◌≡◌, map, take}
use Rattle.spec_core.specs.Theories.{premise_of}
use Rattle.spec_core.proofs.equation.copy_premises.Given as goal

abbrev pub invariant-loop-premise : goal.invariant-loop-premise
invariant-loop-premise l = map premise_of l.all.items ≡ map premise_of (take l.premise-index l.premises)
