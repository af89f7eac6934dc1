use Rattle.std.proofs.Common.{◌≡◌, ◌++◌, map, take}
use Rattle.spec_core.specs.Terms.{term_of, terms}
use Rattle.equation_faults.specs.Variables.{all_variables}
use Rattle.equation_faults.proofs.variables.+variables.Given as goal

abbrev pub invariant-add_all_variables-loop-term : goal.invariant-add_all_variables-loop-term
invariant-add_all_variables-loop-term l =
    l.all.items ≡ l.initial.all.items ++ all_variables (terms (map term_of (take l.term-index l.args)))
