use Rattle.std.proofs.Common.{ℕ, ◌≡◌, ◌<◌, map, length}
use Rattle.spec_core.specs.Substitutions.{substitution_of}
use Rattle.spec_core.specs.Terms.{TermTree, instance, Occurs, term_of}
use Rattle.value_reference.proofs.matching.bind_variables.Given as goal

abbrev pub invariant-loop-variable : goal.invariant-loop-variable
invariant-loop-variable l = record {
  counted : length l.bound.items ≡ l.variable;
  agree : (s : ℕ → TermTree) (x : ℕ) →
      instance s (term_of l.pattern) ≡ term_of l.value → Occurs x (term_of l.pattern) → x < l.variable →
      substitution_of (map term_of l.bound.items) x ≡ s x;
}
