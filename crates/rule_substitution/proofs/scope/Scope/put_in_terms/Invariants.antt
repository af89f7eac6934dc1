use Rattle.std.proofs.Common.{◌≡◌, map, take}
use Rattle.spec_core.specs.Terms.{instance, term_of}
use Rattle.rule_substitution.specs.Scopes.{terms_of}
use Rattle.rule_substitution.proofs.scope.Scope.put_in_terms.Given as goal

abbrev pub invariant-loop-term : goal.invariant-loop-term
invariant-loop-term l = map term_of l.all.items ≡ map (instance (terms_of l.self)) (map term_of (take l.term-index l.terms))
