use Rattle.std.proofs.Common.{◌≡◌, ◌++◌, map, take}
use Rattle.spec_core.specs.Theories.{premise_of}
use Rattle.equation_faults.specs.Variables.{premises_variables}
use Rattle.equation_faults.proofs.variables.add_premises_variables.Given as goal

abbrev pub invariant-loop-premise : goal.invariant-loop-premise
invariant-loop-premise l =
    l.all.items ≡ l.initial.all.items ++ premises_variables (map premise_of (take l.premise-index l.premises))
