-- Which equations aren't as orthogonal data have them, and the refusal of the first of them. (This profile.)
use Rattle.std.specs.Prelude.{◌≡◌, List, [], ◌∷◌, ◌++◌, Option, None, Some}
use Rattle.lotos_ast.specs.declared.refusal.Refusal.{Refusal}
use Rattle.lotos_ast.specs.declared.refusal.RefusalKind.TheVariants.{Overlap}
use Rattle.lotos_ast.specs.FirstRefusals.{first_refusal}
use Rattle.spec_core.specs.Lists.{Each}
use Rattle.spec_core.specs.Orthogonality.{AreApart}
use Rattle.spec_core.specs.Theories.{ConditionalEquation, Theory}
use Rattle.equation_faults.specs.Faults.{IsWellFormed, IsFaultOf, refusal_at}
use Rattle.equation_faults.specs.Firsts.{IsFirstOf}
use Rattle.equation_overlaps.specs.Common.{common_text}

-- an equation overlaps an earlier one: that one is well-formed, and the two aren't apart
abbrev pub Overlaps : Theory → ConditionalEquation → ConditionalEquation → Type 0
Overlaps theory e earlier = IsWellFormed theory earlier × (AreApart theory earlier e → ⊥)

-- the refusal of an equation that overlaps this earlier one, which names the common instance of their left sides
abbrev pub overlap_of : Theory → ConditionalEquation → ConditionalEquation → Refusal
overlap_of theory earlier e = refusal_at Overlap e (common_text theory earlier e ∷ [])

-- the refusal of an equation that stands behind others: what is wrong with it by itself; or, if it is well-formed, that it overlaps one of
-- those, the first such
pub data IsRefusalOf (theory : Theory) (before : List ConditionalEquation) (e : ConditionalEquation) : Refusal → Type 0 where
  fault : (r : Refusal) → IsFaultOf theory e r → IsRefusalOf theory before e r
  overlap : (earlier : ConditionalEquation) → IsWellFormed theory e → IsFirstOf (Overlaps theory e) before earlier →
      IsRefusalOf theory before e (overlap_of theory earlier e)

-- an equation that stands behind others is well-formed, and apart from each well-formed one of them
pub record IsAccepted (theory : Theory) (before : List ConditionalEquation) (e : ConditionalEquation) : Type 0 where
  pub formed : IsWellFormed theory e
  pub apart : Each (λ earlier. IsWellFormed theory earlier → AreApart theory earlier e) before

-- what is answered of it
abbrev pub IsAnswerOf : Theory → List ConditionalEquation → ConditionalEquation → Option Refusal → Type 0
IsAnswerOf theory before e None = IsAccepted theory before e
IsAnswerOf theory before e (Some r) = IsRefusalOf theory before e r

-- a refusal, or nothing, as a list
abbrev pub listed : Option Refusal → List Refusal
listed None = []
listed (Some r) = r ∷ []

-- the refusals of equations, in their order
pub data AreRefusals (theory : Theory) : List ConditionalEquation → List Refusal → Type 0 where
  none : AreRefusals theory [] []
  next : {before : List ConditionalEquation} {refusals : List Refusal} (e : ConditionalEquation) (answer : Option Refusal) →
      AreRefusals theory before refusals → IsAnswerOf theory before e answer →
      AreRefusals theory (before ++ e ∷ []) (refusals ++ listed answer)

-- the first refusal of the data's equations: by place, at one place by its number, and of those with one number that of the first equation
pub record IsFirstRefusal (theory : Theory) (r : Refusal) : Type 0 where
  pub refusals : List Refusal
  pub are : AreRefusals theory theory.equations refusals
  pub first : first_refusal refusals ≡ Some r
