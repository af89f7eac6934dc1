-- New names for the variables of a term.
use Rattle.std.specs.Prelude.{ℕ, ◌≡◌, List}
use Rattle.spec_core.specs.Terms.{TermTree, variable, instance, Occurs}
use Rattle.spec_core.specs.Substitutions.{substitution_of}

-- with these terms for its variables, which are variables, the one term becomes the other
abbrev pub IsRenaming : TermTree → TermTree → List TermTree → Type 0
IsRenaming l k bound =
    (r : ℕ → ℕ) × (instance (λ x. variable (r x)) l ≡ k) × ((x : ℕ) → Occurs x l → substitution_of bound x ≡ variable (r x))
