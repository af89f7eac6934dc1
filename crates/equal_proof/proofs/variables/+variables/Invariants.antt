use Rattle.std.proofs.Common.{◌≡◌, map, take}
use Rattle.spec_core.specs.Terms.{term_of, terms}
use Rattle.equal_proof.specs.Certificates.{with_all_variables}
use Rattle.equal_proof.proofs.variables.+variables.Given as goal

abbrev pub invariant-add_all_variables-loop-term : goal.invariant-add_all_variables-loop-term
invariant-add_all_variables-loop-term l =
    l.found.items ≡ with_all_variables l.initial.found.items (terms (map term_of (take l.term-index l.all)))
