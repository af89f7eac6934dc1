-- The first element of a list of which something holds.
use Rattle.std.specs.Prelude.{ℕ, ◌≡◌, List, ◌∷◌, ◌++◌}
use Rattle.spec_core.specs.Lists.{Each, IsOneOf, NoTwo}

-- x is the first element of which P holds
pub record IsFirstOf {A : Type 0} (P : A → Type 0) (xs : List A) (x : A) : Type 0 where
  pub before : List A
  pub behind : List A
  pub parts : xs ≡ before ++ x ∷ behind
  pub holds : P x
  pub none_before : Each (λ y. P y → ⊥) before

-- x is the element whose second occurrence comes first
pub record IsFirstRepeated (xs : List ℕ) (x : ℕ) : Type 0 where
  pub before : List ℕ
  pub behind : List ℕ
  pub parts : xs ≡ before ++ x ∷ behind
  pub again : IsOneOf x before
  pub none_before : NoTwo (λ y z. y ≡ z) before
