-- The path order, by which evaluation ends. (This profile.)
use Rattle.std.specs.Prelude.{ℕ, ◌≡◌, ◌⊎◌, List, [], ◌∷◌}
use Rattle.spec_core.specs.Lists.{Each, OneOf}
use Rattle.spec_core.specs.Terms.{TermTree, TermTrees, variable, apply, no_terms, and_term}
use Rattle.spec_core.specs.Theories.{Premise, premise, ConditionalEquation, Theory, Heads}
use Rattle.spec_core.specs.Constructors.{IsConstructor}

-- the first term is a proper subterm of the second
abbrev mutual
  pub IsInside : TermTree → TermTree → Type 0
  IsInside u (variable x) = ⊥
  IsInside u (apply f ts) = IsInsideAny u ts

  pub IsInsideAny : TermTree → TermTrees → Type 0
  IsInsideAny u no_terms = ⊥
  IsInsideAny u (and_term t ts) = (u ≡ t) ⊎ IsInside u t ⊎ IsInsideAny u ts

-- at the first place at which two lists differ, the first list has a proper subterm of what the second has
abbrev pub IsSmaller : TermTrees → TermTrees → Type 0
IsSmaller (and_term t ts) (and_term p ps) = IsInside t p ⊎ (t ≡ p) × IsSmaller ts ps
IsSmaller _ _ = ⊥

-- an operation stands in a term
abbrev mutual
  pub HasOperation : ℕ → TermTree → Type 0
  HasOperation g (variable x) = ⊥
  HasOperation g (apply f ts) = (g ≡ f) ⊎ AnyHasOperation g ts

  pub AnyHasOperation : ℕ → TermTrees → Type 0
  AnyHasOperation g no_terms = ⊥
  AnyHasOperation g (and_term t ts) = HasOperation g t ⊎ AnyHasOperation g ts

abbrev pub PremisesHaveOperation : ℕ → List Premise → Type 0
PremisesHaveOperation g [] = ⊥
PremisesHaveOperation g (premise a b ∷ ps) = HasOperation g a ⊎ HasOperation g b ⊎ PremisesHaveOperation g ps

-- g stands in an equation that f heads
abbrev pub Mentions : Theory → ℕ → ℕ → Type 0
Mentions theory f g =
    OneOf (λ e. Heads f e × (HasOperation g e.left ⊎ HasOperation g e.right ⊎ PremisesHaveOperation g e.premises)) theory.equations

-- g is f, or is reached from f by mentions
pub data DependsOn (theory : Theory) : ℕ → ℕ → Type 0 where
  itself : (f : ℕ) → DependsOn theory f f
  onward : (f g h : ℕ) → Mentions theory f g → DependsOn theory g h → DependsOn theory f h

-- f > g: g is reached from f by mentions, and f not from g
abbrev pub IsAbove : Theory → ℕ → ℕ → Type 0
IsAbove theory f g = DependsOn theory f g × (DependsOn theory g f → ⊥)

-- f ~ g: each is reached from the other
abbrev pub IsLevel : Theory → ℕ → ℕ → Type 0
IsLevel theory f g = DependsOn theory f g × DependsOn theory g f

-- a term is below the left side f(ps): it is one of ps or stands inside one; or its arguments are below, and its operation is a
-- constructor, or one that f is above, or one that is level with f and has smaller arguments
abbrev mutual
  pub IsBelow : Theory → ℕ → TermTrees → TermTree → Type 0
  IsBelow theory f ps (variable x) = IsInsideAny (variable x) ps
  IsBelow theory f ps (apply g ts) =
      IsInsideAny (apply g ts) ps ⊎ AreBelow theory f ps ts ×
      (IsConstructor theory g ⊎ IsAbove theory f g ⊎ IsLevel theory f g × IsSmaller ts ps)

  pub AreBelow : Theory → ℕ → TermTrees → TermTrees → Type 0
  AreBelow theory f ps no_terms = Unit {0}
  AreBelow theory f ps (and_term t ts) = IsBelow theory f ps t × AreBelow theory f ps ts

abbrev pub PremiseIsBelow : Theory → ℕ → TermTrees → Premise → Type 0
PremiseIsBelow theory f ps (premise a b) = IsBelow theory f ps a × IsBelow theory f ps b

-- the right side and both sides of each premise are below the left side
pub record Decreases (theory : Theory) (f : ℕ) (ps : TermTrees) (e : ConditionalEquation) : Type 0 where
  pub right : IsBelow theory f ps e.right
  pub asked : Each (PremiseIsBelow theory f ps) e.premises

abbrev pub IsDecreasing : Theory → Type 0
IsDecreasing theory = Each (λ e. (f : ℕ) (ps : TermTrees) → e.left ≡ apply f ps → Decreases theory f ps e) theory.equations
