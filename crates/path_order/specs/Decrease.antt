-- Which equations aren't decreasing, and the refusal of the first of them. (This profile.)
use Rattle.std.specs.Prelude.{ℕ, ◌≡◌, ◌⊎◌, List, [], ◌∷◌, ◌++◌, Option, None, Some}
use Rattle.lotos_ast.specs.declared.refusal.Refusal.{Refusal}
use Rattle.lotos_ast.specs.declared.refusal.RefusalKind.TheVariants.{NotDecreasing}
use Rattle.lotos_ast.specs.FirstRefusals.{first_refusal}
use Rattle.spec_core.specs.Order.{IsBelow, Decreases}
use Rattle.spec_core.specs.Terms.{TermTree, TermTrees, apply}
use Rattle.spec_core.specs.TermText.{term_text}
use Rattle.spec_core.specs.Theories.{Premise, premise, ConditionalEquation, Theory}

-- the sides of an equation that are to be below its left side, in the order in which they are asked: premises before the right side
abbrev pub premise_sides : List Premise → List TermTree
premise_sides [] = []
premise_sides (premise a b ∷ ps) = a ∷ b ∷ premise_sides ps

abbrev pub sides : ConditionalEquation → List TermTree
sides e = premise_sides e.premises ++ e.right ∷ []

-- the first element of a list of which P doesn't hold
abbrev pub IsFirstNot : (TermTree → Type 0) → List TermTree → TermTree → Type 0
IsFirstNot P [] t = ⊥
IsFirstNot P (x ∷ xs) t = (t ≡ x) × (P x → ⊥) ⊎ P x × IsFirstNot P xs t

-- the equation is decreasing; one with a variable for its left side has nothing to decrease
abbrev pub IsDecreasingAt : Theory → ConditionalEquation → Type 0
IsDecreasingAt theory e = (f : ℕ) (ps : TermTrees) → e.left ≡ apply f ps → Decreases theory f ps e

-- the refusal at an equation's place that names one of its sides
abbrev pub refusal_naming : Theory → ConditionalEquation → TermTree → Refusal
refusal_naming theory e side = record {
  kind = NotDecreasing;
  place = record { line = e.line; column = e.column };
  names = term_text theory.sorts theory.operations e.names side ∷ [];
}

-- the refusal of an equation: it names the first side that isn't below the left side
pub record IsRefusalOf (theory : Theory) (e : ConditionalEquation) (r : Refusal) : Type 0 where
  pub f : ℕ
  pub ps : TermTrees
  pub left : e.left ≡ apply f ps
  pub side : TermTree
  pub first : IsFirstNot (IsBelow theory f ps) (sides e) side
  pub is : r ≡ refusal_naming theory e side

-- what is answered of an equation: nothing exactly where it is decreasing
abbrev pub IsAnswerOf : Theory → ConditionalEquation → Option Refusal → Type 0
IsAnswerOf theory e None = IsDecreasingAt theory e
IsAnswerOf theory e (Some r) = IsRefusalOf theory e r

-- a refusal, or nothing, as a list
abbrev pub listed : Option Refusal → List Refusal
listed None = []
listed (Some r) = r ∷ []

-- what is answered of an equation was added to a list of refusals
abbrev pub IsAdded : Theory → ConditionalEquation → List Refusal → List Refusal → Type 0
IsAdded theory e old new = (answer : Option Refusal) × IsAnswerOf theory e answer × (new ≡ old ++ listed answer)

-- the refusals of equations, in their order: one for each that isn't decreasing
pub data AreRefusals (theory : Theory) : List ConditionalEquation → List Refusal → Type 0 where
  none : AreRefusals theory [] []
  decreasing : {e : ConditionalEquation} {es : List ConditionalEquation} {rs : List Refusal} →
      IsDecreasingAt theory e → AreRefusals theory es rs → AreRefusals theory (e ∷ es) rs
  refused : {e : ConditionalEquation} {es : List ConditionalEquation} {r : Refusal} {rs : List Refusal} →
      IsRefusalOf theory e r → AreRefusals theory es rs → AreRefusals theory (e ∷ es) (r ∷ rs)

-- the first refusal of the data's equations: by place, and where several stand at one place, that of the first by number
pub record IsFirstRefusal (theory : Theory) (r : Refusal) : Type 0 where
  pub refusals : List Refusal
  pub listed : AreRefusals theory theory.equations refusals
  pub first : first_refusal refusals ≡ Some r
