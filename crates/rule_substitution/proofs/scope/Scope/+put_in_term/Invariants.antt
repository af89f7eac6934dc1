use Rattle.std.proofs.Common.{◌≡◌, map, take}
use Rattle.spec_core.specs.Terms.{instance, term_of}
use Rattle.rule_substitution.specs.Scopes.{terms_of}
use Rattle.rule_substitution.proofs.scope.Scope.+put_in_term.Given as goal

abbrev pub invariant-loop-arg : goal.invariant-loop-arg
invariant-loop-arg l = map term_of l.all.items ≡ map (instance (terms_of l.self)) (map term_of (take l.arg-index l.arg-items))
