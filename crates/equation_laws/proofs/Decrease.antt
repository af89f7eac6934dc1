-- Equations that aren't decreasing have one list of refusals.
use Rattle.std.proofs.Common.{◌≡◌, List, [], ◌∷◌, refl, sym, ap, subst, ◌∙◌, inl, inr}
use Rattle.std.proofs.lemmas.Option.{same_Some}
use Rattle.lotos_ast.specs.declared.refusal.Refusal.{Refusal}
use Rattle.lotos_ast.specs.FirstRefusals.{first_refusal}
use Rattle.spec_core.specs.Order.{IsBelow}
use Rattle.spec_core.specs.Terms.{TermTree, apply}
use Rattle.spec_core.specs.Theories.{Theory, ConditionalEquation}
use Rattle.path_order.specs.Decrease.{IsFirstNot, sides, IsDecreasingAt, IsRefusalOf, refusal_naming, AreRefusals, none, decreasing, refused}
use Rattle.path_order.proofs.Asked.{not_each, sides_below}
use Rattle.path_order.proofs.Refusing.{not_all}
use Rattle.equation_laws.specs.Laws.{DecreaseHasOneAnswer}

side-one : (P : TermTree → Type 0) (xs : List TermTree) (t u : TermTree) → IsFirstNot P xs t → IsFirstNot P xs u → t ≡ u
side-one P [] t u h k = absurd h
side-one P (x ∷ xs) t u (inl h) (inl k) = h.0 ∙ sym k.0
side-one P (x ∷ xs) t u (inl h) (inr k) = absurd (h.1 k.0)
side-one P (x ∷ xs) t u (inr h) (inl k) = absurd (k.1 h.0)
side-one P (x ∷ xs) t u (inr h) (inr k) = side-one P xs t u h.1 k.1

module _ (theory : Theory) where
  refusal-one : (e : ConditionalEquation) (r s : Refusal) → IsRefusalOf theory e r → IsRefusalOf theory e s → r ≡ s
  refusal-one e r s h k =
      let same : apply h.f h.ps ≡ apply k.f k.ps = sym h.left ∙ k.left in
      let f : h.f ≡ k.f = cc in
      let ps : h.ps ≡ k.ps = cc in
      let first = subst (λ q. IsFirstNot (IsBelow theory q k.ps) (sides e) h.side) f (subst (λ q. IsFirstNot (IsBelow theory h.f q) (sides e) h.side) ps h.first) in
      h.is ∙ ap (refusal_naming theory e) (side-one (IsBelow theory k.f k.ps) (sides e) h.side k.side first k.first) ∙ sym k.is

  not-refused : (e : ConditionalEquation) (r : Refusal) → IsRefusalOf theory e r → IsDecreasingAt theory e → ⊥
  not-refused e r h d = not_each (IsBelow theory h.f h.ps) (sides e) h.side h.first (sides_below theory h.f h.ps e (d h.f h.ps h.left))

  refusals-one : (es : List ConditionalEquation) (rs ss : List Refusal) → AreRefusals theory es rs → AreRefusals theory es ss → rs ≡ ss
  refusals-one [] rs ss none none = refl
  refusals-one (e ∷ es) rs ss (decreasing d h) (decreasing c k) = refusals-one es rs ss h k
  refusals-one (e ∷ es) rs ss (decreasing d h) (refused {r = s} x k) = absurd (not-refused e s x d)
  refusals-one (e ∷ es) rs ss (refused {r = r} x h) (decreasing d k) = absurd (not-refused e r x d)
  refusals-one (e ∷ es) rs ss (refused {r = r} {rs = old} x h) (refused {r = s} {rs = other} y k) =
      ap (λ q. q ∷ old) (refusal-one e r s x y) ∙ ap (λ q. s ∷ q) (refusals-one es old other h k)

pub decrease_one : DecreaseHasOneAnswer
decrease_one theory = record {
  one_refusal = λ r s h k. same_Some r s (sym h.first ∙ ap first_refusal (refusals-one theory theory.equations h.refusals k.refusals h.listed k.listed) ∙ k.first);
  not_both = not_all theory;
}
