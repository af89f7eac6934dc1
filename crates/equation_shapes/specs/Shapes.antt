-- Shapes of terms: terms of which it doesn't matter how their variables are named. (This profile.)
use Rattle.std.specs.Prelude.{ℕ, ◌≡◌}
use Rattle.spec_core.specs.Terms.{TermTree, TermTrees, variable, apply, no_terms, and_term, instance}

-- the term is the shape with some term in place of each occurrence of a variable
abbrev mutual
  pub IsOfShape : TermTree → TermTree → Type 0
  IsOfShape (variable x) t = Unit {0}
  IsOfShape (apply f ps) (variable y) = ⊥
  IsOfShape (apply f ps) (apply g ts) = (f ≡ g) × AreOfShape ps ts

  pub AreOfShape : TermTrees → TermTrees → Type 0
  AreOfShape no_terms no_terms = Unit {0}
  AreOfShape (and_term p ps) (and_term t ts) = IsOfShape p t × AreOfShape ps ts
  AreOfShape no_terms (and_term t ts) = ⊥
  AreOfShape (and_term p ps) no_terms = ⊥

-- two shapes meet: they have different operations at no place
abbrev mutual
  pub Meets : TermTree → TermTree → Type 0
  Meets (variable x) q = Unit {0}
  Meets (apply f ps) (variable y) = Unit {0}
  Meets (apply f ps) (apply g qs) = (f ≡ g) × MeetAll ps qs

  pub MeetAll : TermTrees → TermTrees → Type 0
  MeetAll no_terms no_terms = Unit {0}
  MeetAll (and_term p ps) (and_term q qs) = Meets p q × MeetAll ps qs
  MeetAll no_terms (and_term q qs) = ⊥
  MeetAll (and_term p ps) no_terms = ⊥

-- two terms, their variables kept apart, have a common instance
pub record HaveCommonInstance (p q : TermTree) : Type 0 where
  pub one : ℕ → TermTree
  pub other : ℕ → TermTree
  pub same : instance one p ≡ instance other q
