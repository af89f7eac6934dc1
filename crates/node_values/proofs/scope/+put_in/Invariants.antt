use Rattle.std.proofs.Common.{◌≡◌, map, take}
use Rattle.spec_core.specs.Terms.{term_of}
use Rattle.spec_core.specs.Theories.{theory_of}
use Rattle.symbolic_rules.specs.MarkedTerms.{marked_instance}
use Rattle.node_values.specs.Scopes.{marks_of, marked_term_of}
use Rattle.node_values.proofs.scope.+put_in.Given as goal

abbrev pub invariant-loop-arg : goal.invariant-loop-arg
invariant-loop-arg l =
    map marked_term_of l.parts.items ≡
    map (marked_instance (theory_of l.algebra) (marks_of (theory_of l.algebra) l.scope)) (map term_of (take l.arg-index l.arg-items))
