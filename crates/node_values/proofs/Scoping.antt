-- What is known of values for variables.
use Rattle.std.proofs.Common.{ℕ, ◌≡◌, ◌==◌, List, [], ◌∷◌, refl, Bool, true, false, if◌then◌else◌}
use Rattle.spec_core.specs.Terms.{TermTree, variable}
use Rattle.spec_core.specs.Theories.{Theory}
use Rattle.rule_model.specs.Substitution.{Assignment, with_term}
use Rattle.rule_origins.specs.Values.{term_spelled, with_values, assignment}
use Rattle.symbolic_rules.specs.MarkedTerms.{plain, unmarked}
use Rattle.node_values.specs.declared.scope.Given.{Given}
use Rattle.node_values.specs.declared.scope.Given.TheVariants.{Value}
use Rattle.node_values.specs.Scopes.{marks_of, scope_over}

module _ (theory : Theory) where
  known : (values : List (ℕ × List ℕ)) (scope : List (ℕ × Given)) (s : Assignment) → ((y : ℕ) → marks_of theory scope y ≡ plain (s y)) →
      (y : ℕ) → marks_of theory (scope_over values scope) y ≡ plain (with_values theory values s y)
  known [] scope s h = h
  known (b ∷ values) scope s h =
      known values ((b.0, Value b.1) ∷ scope) (with_term (record { number = b.0; sort = 0 }) (term_spelled theory b.0 b.1) s)
      (λ y. by_test (y == b.0) y (h y))
    where
      by_test : (c : Bool) (y : ℕ) → marks_of theory scope y ≡ plain (s y) →
          (if c then plain (term_spelled theory b.0 b.1) else marks_of theory scope y) ≡ plain (if c then term_spelled theory b.0 b.1 else s y)
      by_test true y h = refl
      by_test false y h = h

-- the variables have the terms of the values
pub scope_known : (theory : Theory) (values : List (ℕ × List ℕ)) (y : ℕ) →
    marks_of theory (scope_over values []) y ≡ plain (assignment theory values y)
unfolding assignment
scope_known theory values y = known theory values [] variable (λ y. refl) y
