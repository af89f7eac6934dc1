-- Premises that can't hold together.
use Rattle.std.specs.Prelude.{ℕ, ◌≡◌, ◌⊎◌, List}
use Rattle.spec_core.specs.Lists.{OneOf}
use Rattle.spec_core.specs.Orthogonality.{Gives}
use Rattle.spec_core.specs.Terms.{TermTree}
use Rattle.spec_core.specs.Theories.{Premise, Theory}

-- two premises give the term two different constants
pub record ClashAt (theory : Theory) (p q : Premise) (t : TermTree) : Type 0 where
  pub one : ℕ
  pub other : ℕ
  pub gives_one : Gives theory p t one
  pub gives_other : Gives theory q t other
  pub differ : one ≡ other → ⊥

-- two premises give some term two different constants
abbrev pub Clash : Theory → Premise → Premise → Type 0
Clash theory p q = (t : TermTree) × ClashAt theory p q t

-- a premise of one list and a premise of another do
abbrev pub SomeClash : Theory → List Premise → List Premise → Type 0
SomeClash theory ps qs = OneOf (λ p. OneOf (Clash theory p) qs) ps

-- two of the premises of two lists do
abbrev pub CannotHold : Theory → List Premise → List Premise → Type 0
CannotHold theory ps qs = SomeClash theory ps ps ⊎ SomeClash theory ps qs ⊎ SomeClash theory qs qs
