-- The terms to which a premise may give a constant.
use Rattle.std.specs.Prelude.{ℕ, zero, suc, ◌≡◌, ◌<◌, ◌⊎◌}
use Rattle.spec_core.specs.Orthogonality.{Gives, DeniesTerm}
use Rattle.spec_core.specs.Terms.{TermTree, TermTrees, variable, apply, no_terms, and_term, constant}
use Rattle.spec_core.specs.Theories.{Premise, premise, Theory}

-- the premise gives the term the constant c by its form, whether c is a constructor or not
abbrev pub GivesByForm : Theory → Premise → TermTree → ℕ → Type 0
GivesByForm theory p t c = (p ≡ premise t (constant c)) ⊎ (p ≡ premise (constant c) t) ⊎ DeniesTerm theory p t c

abbrev pub first_or : TermTree → TermTrees → TermTree
first_or t no_terms = t
first_or t (and_term u us) = u

-- what stands first under the term's operation; the term itself where nothing does
abbrev pub under : TermTree → TermTree
under (variable x) = variable x
under (apply f ts) = first_or (apply f ts) ts

-- the first is the premise's left side, the second its right side, any other what stands first under the left side's operation
abbrev pub candidate : Premise → ℕ → TermTree
candidate (premise a b) zero = a
candidate (premise a b) (suc zero) = b
candidate (premise a b) (suc (suc n)) = under a

-- a premise gives a constant to none but its candidates
abbrev pub GivesToCandidates : Theory → Type 0
GivesToCandidates theory = (p : Premise) (t : TermTree) (c : ℕ) → Gives theory p t c → (n : ℕ) × (n < 3) × (t ≡ candidate p n)
