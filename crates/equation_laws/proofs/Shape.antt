-- Equations that aren't as orthogonal data have them have one list of refusals.
use Rattle.std.proofs.Common.{◌≡◌, List, [], ◌∷◌, ◌++◌, Option, Some, None, refl, sym, ap, subst, ◌∙◌}
use Rattle.std.proofs.lemmas.Option.{same_Some}
use Rattle.std.proofs.lemmas.List.{same_from_push}
use Rattle.lotos_ast.specs.declared.refusal.Refusal.{Refusal}
use Rattle.lotos_ast.specs.FirstRefusals.{first_refusal}
use Rattle.spec_core.specs.Lists.{Each}
use Rattle.spec_core.specs.Orthogonality.{AreApart}
use Rattle.spec_core.specs.Theories.{Theory, ConditionalEquation}
use Rattle.spec_core.proofs.Lists.{each_middle}
use Rattle.equation_faults.specs.Faults.{IsWellFormed}
use Rattle.equation_check.specs.Shape.{Overlaps, overlap_of, IsRefusalOf, fault, overlap, IsAccepted, IsAnswerOf, listed, AreRefusals, none, next}
use Rattle.equation_check.proofs.Refusing.{fault_refuses, not_orthogonal}
use Rattle.equation_laws.specs.Laws.{ShapeHasOneAnswer}
use Rattle.equation_laws.proofs.Firsts.{first-one}
use Rattle.equation_laws.proofs.Faults.{fault-one}

not-empty : {A : Type 0} (xs : List A) (x : A) → [] ≡ xs ++ x ∷ [] → ⊥
not-empty [] x e = cc
not-empty (y ∷ xs) x e = cc

module _ (theory : Theory) where
  refusal-one : (before : List ConditionalEquation) (e : ConditionalEquation) (r s : Refusal) → IsRefusalOf theory before e r → IsRefusalOf theory before e s → r ≡ s
  refusal-one before e r s (fault q f) (fault p g) = fault-one theory e q p f g
  refusal-one before e r s (fault q f) (overlap d w first) = absurd (fault_refuses theory e q f w)
  refusal-one before e r s (overlap d w first) (fault q f) = absurd (fault_refuses theory e q f w)
  refusal-one before e r s (overlap c w first) (overlap d v second) = ap (λ z. overlap_of theory z e) (first-one (Overlaps theory e) before c d first second)

  not-refused : (before : List ConditionalEquation) (e : ConditionalEquation) (r : Refusal) → IsAccepted theory before e → IsRefusalOf theory before e r → ⊥
  not-refused before e r a (fault q f) = fault_refuses theory e q f a.formed
  not-refused before e r a (overlap d w first) =
      first.holds.1 (each_middle (λ z. IsWellFormed theory z → AreApart theory z e) first.before first.behind d (subst (Each (λ z. IsWellFormed theory z → AreApart theory z e)) first.parts a.apart) first.holds.0)

  answer-one : (before : List ConditionalEquation) (e : ConditionalEquation) (a b : Option Refusal) → IsAnswerOf theory before e a → IsAnswerOf theory before e b → a ≡ b
  answer-one before e None None h k = refl
  answer-one before e None (Some s) h k = absurd (not-refused before e s h k)
  answer-one before e (Some r) None h k = absurd (not-refused before e r k h)
  answer-one before e (Some r) (Some s) h k = ap Some (refusal-one before e r s h k)

  refusals-one : (es fs : List ConditionalEquation) (rs ss : List Refusal) → AreRefusals theory es rs → AreRefusals theory fs ss → es ≡ fs → rs ≡ ss
  refusals-one es fs rs ss none none e = refl
  refusals-one es fs rs ss none (next {before = c} d answer h a) e = absurd (not-empty c d e)
  refusals-one es fs rs ss (next {before = b} d answer h a) none e = absurd (not-empty b d (sym e))
  refusals-one es fs rs ss (next {before = b} {refusals = old} d x h a) (next {before = c} {refusals = other} f y k z) e =
      let p = same_from_push b c d f e in
      let answers = answer-one c f x y (subst (λ q. IsAnswerOf theory q f x) p.0 (subst (λ q. IsAnswerOf theory b q x) p.1 a)) z in
      ap (λ q. q ++ listed x) (refusals-one b c old other h k p.0) ∙ ap (λ q. other ++ listed q) answers

pub shape_one : ShapeHasOneAnswer
shape_one theory = record {
  one_refusal = λ r s h k. same_Some r s (sym h.first ∙ ap first_refusal (refusals-one theory theory.equations theory.equations h.refusals k.refusals h.are k.are refl) ∙ k.first);
  not_both = not_orthogonal theory;
}
