-- What a part that goes beyond its budget says of the whole, step by step.
use Rattle.std.proofs.Common.{ℕ, ◌≡◌, ◌≤◌, ◌-◌, List, [], ◌∷◌, ◌++◌, sym, subst, ◌∙◌, arith, Bool, true, false, inl, inr}
use Rattle.spec_core.specs.Budgets.{IsBeyond, AreBeyond, BothAreBeyond, TriesAreBeyond, AsksAreBeyond}
use Rattle.spec_core.specs.Evaluation.{Evaluates, EvaluatesAll, Tries, Asks, HaveValues, called, none, more, unlike, like, used, holds}
use Rattle.spec_core.specs.Evaluation.{fails}
use Rattle.spec_core.specs.Lists.{Each}
use Rattle.spec_core.specs.Orthogonality.{HasNoLooseVariables}
use Rattle.spec_core.specs.Terms.{TermTree, TermTrees, apply, terms, instance, Occurs}
use Rattle.spec_core.specs.Theories.{Premise, premise, ConditionalEquation, Theory, OccursInPremises}
use Rattle.spec_core.proofs.Lists.{untrue}
use Rattle.spec_core.proofs.OneValue.{agree, same_instance, one_value, one_values}

-- a call whose arguments are beyond the budget
pub arguments_beyond : (theory : Theory) (t : TermTree) (f : ℕ) (ts us : TermTrees) (budget : ℕ) →
    t ≡ apply f us → ts ≡ us → AreBeyond theory ts budget → IsBeyond theory t budget
arguments_beyond theory t f ts us budget is same h = subst (λ u. IsBeyond theory u budget) (sym is) call
  where
    call : IsBeyond theory (apply f us) budget
    call v k (called vs n m a b e) =
        let x = h vs n (subst (λ xs. EvaluatesAll theory xs vs n) (sym same) a) in
        omega arith

pub unlike_beyond : (theory : Theory) (e : ConditionalEquation) (es : List ConditionalEquation) (f : ℕ) (vs : TermTrees) (budget : ℕ) →
    ((s : ℕ → TermTree) → instance s e.left ≡ apply f vs → ⊥) → TriesAreBeyond theory es f vs budget →
    TriesAreBeyond theory (e ∷ es) f vs budget
unlike_beyond theory e es f vs budget differs h v k (unlike i a) = h v k a
unlike_beyond theory e es f vs budget differs h v k (like s i a) = absurd (differs s i)

-- premises that are asked of another substitution with the same terms for their variables and for those of the right side
asks_again : (theory : Theory) (s z : ℕ → TermTree) (r : TermTree) (es : List ConditionalEquation) (f : ℕ) (vs : TermTrees) →
    ((x : ℕ) → Occurs x r → s x ≡ z x) → (ps : List Premise) → ((x : ℕ) → OccursInPremises x ps → s x ≡ z x) → (v : TermTree) (k : ℕ) →
    Asks theory ps r s es f vs v k → Asks theory ps r z es f vs v k
asks_again theory s z r es f vs hr [] hp v k (used n a e) =
    used n (subst (λ i. Evaluates theory i v n) (same_instance s z r hr) a) e
asks_again theory s z r es f vs hr (premise a b ∷ ps) hp v k (holds w n m l c d g e) =
    holds w n m l
    (subst (λ i. Evaluates theory i w n) (same_instance s z a (λ x o. hp x (inl o))) c)
    (subst (λ i. Evaluates theory i w m) (same_instance s z b (λ x o. hp x (inr (inl o)))) d)
    (asks_again theory s z r es f vs hr ps (λ x o. hp x (inr (inr o))) v l g) e
asks_again theory s z r es f vs hr (premise a b ∷ ps) hp v k (fails w u n m l c d ne g e) =
    fails w u n m l
    (subst (λ i. Evaluates theory i w n) (same_instance s z a (λ x o. hp x (inl o))) c)
    (subst (λ i. Evaluates theory i u m) (same_instance s z b (λ x o. hp x (inr (inl o)))) d)
    ne g e

pub like_beyond :
    (theory : Theory) (e : ConditionalEquation) (es : List ConditionalEquation) (f : ℕ) (vs : TermTrees) (budget : ℕ) (z : ℕ → TermTree) →
    HasNoLooseVariables e → instance z e.left ≡ apply f vs → AsksAreBeyond theory e.premises e.right z es f vs budget →
    TriesAreBeyond theory (e ∷ es) f vs budget
like_beyond theory e es f vs budget z tight fit h v k (unlike differs a) = absurd (differs z fit)
like_beyond theory e es f vs budget z tight fit h v k (like s i a) =
    let g : instance s e.left ≡ instance z e.left = i ∙ sym fit in
    h v k
    (asks_again theory s z e.right es f vs
    (λ x o. agree s z e.left g x (tight.right x o)) e.premises
    (λ x o. agree s z e.left g x (tight.premises x o)) v k a)

-- parts evaluated before have one value at one cost: what is left of the budget is the same for every evaluation
module _ (theory : Theory) (tight : Each HasNoLooseVariables theory.equations) where
  pub call_beyond : (t : TermTree) (f : ℕ) (ts us vs ws : TermTrees) (es : List ConditionalEquation) (budget n : ℕ) →
      t ≡ apply f us → ts ≡ us → ws ≡ vs → es ≡ theory.equations → n ≤ budget → EvaluatesAll theory ts vs n →
      TriesAreBeyond theory es f ws (budget - n) → IsBeyond theory t budget
  call_beyond t f ts us vs ws es budget n is args values all within evaluated h = subst (λ u. IsBeyond theory u budget) (sym is) call
    where
      call : IsBeyond theory (apply f us) budget
      call v k (called xs i j a b e) =
          let same = one_values theory tight (subst (λ ys. EvaluatesAll theory ys vs n) args evaluated) a in
          let tried = subst (λ ys. Tries theory theory.equations f ys v j) (sym (values ∙ same.0)) b in
          let x = h v j (subst (λ ys. Tries theory ys f ws v j) (sym all) tried) in
          let cost = same.1 in
          omega arith

  -- the terms before one that is beyond what is left
  pub list_beyond : (before : List TermTree) (t : TermTree) (after : List TermTree) (vs : TermTrees) (budget n : ℕ) →
      n ≤ budget → EvaluatesAll theory (terms before) vs n → IsBeyond theory t (budget - n) →
      AreBeyond theory (terms (before ++ t ∷ after)) budget
  list_beyond [] t after vs budget n within (none z) h ws k (more i j a b e) =
      let x = h _ i a in
      omega arith
  list_beyond (u ∷ before) t after vs budget n within (more i j a b e) h ws k (more i' j' a' b' e') =
      let same = one_value theory tight a a' in
      let cost = same.1 in
      let left : budget - n ≡ (budget - i) - j = omega arith in
      let x = list_beyond before t after _ (budget - i) j (omega arith) b (subst (IsBeyond theory t) left h) _ j' b' in
      omega arith

  -- sides of which the right one is beyond what the left one leaves
  pub right_beyond : (a b v : TermTree) (budget n : ℕ) →
      n ≤ budget → Evaluates theory a v n → IsBeyond theory b (budget - n) → BothAreBeyond theory a b budget
  right_beyond a b v budget n within c h u w i j c' d =
      let same = one_value theory tight c c' in
      let cost = same.1 in
      let x = h w j d in
      omega arith

  -- an equal or unequal premise before what is beyond what it leaves
  pub rest_beyond :
      (a b : TermTree) (ps : List Premise) (r : TermTree) (s : ℕ → TermTree) (es : List ConditionalEquation) (f : ℕ) (vs : TermTrees)
      (equal : Bool) (budget uses : ℕ) →
      uses ≤ budget → HaveValues theory (instance s a) (instance s b) equal uses → equal ≡ true →
      AsksAreBeyond theory ps r s es f vs (budget - uses) → AsksAreBeyond theory (premise a b ∷ ps) r s es f vs budget
  rest_beyond a b ps r s es f vs equal budget uses within sides alike h v k (holds w n m l c d g e) =
      let one = one_value theory tight sides.of_left c in
      let other = one_value theory tight sides.of_right d in
      let x = h v l g in
      omega (arith, one.1, other.1, sides.total)
  rest_beyond a b ps r s es f vs equal budget uses within sides alike h v k (fails w u n m l c d ne g e) =
      let one = one_value theory tight sides.of_left c in
      let other = one_value theory tight sides.of_right d in
      absurd (ne (sym one.0 ∙ sides.compared.0 alike ∙ other.0))

  pub others_beyond :
      (a b : TermTree) (ps : List Premise) (r : TermTree) (s : ℕ → TermTree) (es : List ConditionalEquation) (f : ℕ) (vs : TermTrees)
      (equal : Bool) (budget uses : ℕ) →
      uses ≤ budget → HaveValues theory (instance s a) (instance s b) equal uses → equal ≡ false →
      TriesAreBeyond theory es f vs (budget - uses) → AsksAreBeyond theory (premise a b ∷ ps) r s es f vs budget
  others_beyond a b ps r s es f vs equal budget uses within sides unlike_sides h v k (holds w n m l c d g e) =
      let one = one_value theory tight sides.of_left c in
      let other = one_value theory tight sides.of_right d in
      let alike : equal ≡ true = sides.compared.1 (one.0 ∙ sym other.0) in
      absurd (untrue (sym unlike_sides ∙ alike))
  others_beyond a b ps r s es f vs equal budget uses within sides unlike_sides h v k (fails w u n m l c d ne g e) =
      let one = one_value theory tight sides.of_left c in
      let other = one_value theory tight sides.of_right d in
      let x = h v l g in
      omega (arith, one.1, other.1, sides.total)
