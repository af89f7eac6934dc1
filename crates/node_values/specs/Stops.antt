-- Why there is no answer.
use Rattle.std.specs.Prelude.{ℕ}
use Rattle.spec_core.specs.Budgets.{IsBeyond}
use Rattle.spec_core.specs.Terms.{TermTree, term_of}
use Rattle.spec_core.specs.Theories.{Theory}
use Rattle.rewriter.specs.Answers.{MeetsTooLarge}
use Rattle.node_values.specs.declared.stop.Stop.{Stop}
use Rattle.node_values.specs.declared.stop.Stop.TheVariants.{Spent, TooLarge, Wide, Memory}

-- where the budget is spent, P holds of the term
abbrev pub OnSpent : Stop → (TermTree → Type 0) → Type 0
OnSpent (Spent term) P = P (term_of term)
OnSpent (TooLarge term) P = Unit {0}
OnSpent (Wide n) P = Unit {0}
OnSpent Memory P = Unit {0}

-- where a value is too large, P holds of the term
abbrev pub OnTooLarge : Stop → (TermTree → Type 0) → Type 0
OnTooLarge (Spent term) P = Unit {0}
OnTooLarge (TooLarge term) P = P (term_of term)
OnTooLarge (Wide n) P = Unit {0}
OnTooLarge Memory P = Unit {0}

-- where a behaviour is too wide, P holds of the number
abbrev pub OnWide : Stop → (ℕ → Type 0) → Type 0
OnWide (Spent term) P = Unit {0}
OnWide (TooLarge term) P = Unit {0}
OnWide (Wide n) P = P n
OnWide Memory P = Unit {0}

-- The stop says why: only a term of which A holds has no value within the budget, or meets a value that is too large; a behaviour is too
-- wide only with a number of which W holds. Want of memory is free.
pub record Stops (theory : Theory) (budget : ℕ) (A : TermTree → Type 0) (W : ℕ → Type 0) (s : Stop) : Type 0 where
  pub spent : OnSpent s (λ x. A x × IsBeyond theory x budget)
  pub too_large : OnTooLarge s (λ x. A x × MeetsTooLarge theory x)
  pub wide : OnWide s W

-- never
abbrev pub Never : ℕ → Type 0
Never n = ⊥
