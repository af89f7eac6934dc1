-- Evaluations that take more uses of equations than a budget has.
use Rattle.std.specs.Prelude.{ℕ, ◌<◌, ◌+◌, List}
use Rattle.spec_core.specs.Terms.{TermTree, TermTrees}
use Rattle.spec_core.specs.Theories.{Premise, ConditionalEquation, Theory}
use Rattle.spec_core.specs.Evaluation.{Evaluates, EvaluatesAll, Tries, Asks}

-- the term has no value within so many uses of equations
abbrev pub IsBeyond : Theory → TermTree → ℕ → Type 0
IsBeyond theory t budget = (v : TermTree) (n : ℕ) → Evaluates theory t v n → budget < n

-- the terms have no values within so many uses for all of them
abbrev pub AreBeyond : Theory → TermTrees → ℕ → Type 0
AreBeyond theory ts budget = (vs : TermTrees) (n : ℕ) → EvaluatesAll theory ts vs n → budget < n

-- one of the two terms has no value, or they have none within so many uses for both
abbrev pub BothAreBeyond : Theory → TermTree → TermTree → ℕ → Type 0
BothAreBeyond theory a b budget = (v w : TermTree) (n m : ℕ) → Evaluates theory a v n → Evaluates theory b w m → budget < n + m

-- the operation over values has no value within so many uses, with these equations left to be tried
abbrev pub TriesAreBeyond : Theory → List ConditionalEquation → ℕ → TermTrees → ℕ → Type 0
TriesAreBeyond theory es f vs budget = (v : TermTree) (n : ℕ) → Tries theory es f vs v n → budget < n

-- the same with these premises left to be asked of an equation that matches
abbrev pub AsksAreBeyond : Theory → List Premise → TermTree → (ℕ → TermTree) → List ConditionalEquation → ℕ → TermTrees → ℕ → Type 0
AsksAreBeyond theory ps r s es f vs budget = (v : TermTree) (n : ℕ) → Asks theory ps r s es f vs v n → budget < n
