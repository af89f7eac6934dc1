-- The refusals of the equations of data.
use Rattle.std.proofs.Common.{ℕ, zero, suc, ◌≡◌, ◌<◌, ◌≤◌, ◌+◌, List, [], ◌∷◌, ◌++◌, Option, None, Some, length, map, take, get_or, add-one, refl, sym, subst, arith, ◌∙◌, ap}
use Rattle.std.proofs.lemmas.List.{take_all}
use Rattle.lotos_ast.specs.declared.refusal.Refusal.{Refusal}
use Rattle.lotos_ast.specs.FirstRefusals.{first_refusal}
use Rattle.spec_core.specs.declared.equation.Equation.{Equation}
use Rattle.spec_core.specs.Lists.{Each}
use Rattle.spec_core.specs.Order.{IsBelow, IsDecreasing}
use Rattle.spec_core.specs.Theories.{Theory, ConditionalEquation, equation_of}
use Rattle.path_order.specs.Decrease.{IsDecreasingAt, IsRefusalOf, IsAnswerOf, IsAdded, listed, AreRefusals, IsFirstRefusal, none, decreasing, refused, sides}
use Rattle.path_order.proofs.Asked.{not_each, sides_below}

module _ (theory : Theory) where
  answers_suc : (xs : List Equation) (i : ℕ) (x : Equation) (rs : List Refusal) (answer : Option Refusal) →
      i < length xs → x ≡ get_or xs i x → AreRefusals theory (map equation_of (take i xs)) rs →
      IsAnswerOf theory (equation_of x) answer → AreRefusals theory (map equation_of (take (suc i) xs)) (rs ++ listed answer)
  answers_suc [] i x rs answer w a h k = absurd (omega arith)
  answers_suc (y ∷ xs) zero x [] None w a none k = decreasing (subst (λ z. IsAnswerOf theory (equation_of z) None) a k) none
  answers_suc (y ∷ xs) zero x [] (Some r) w a none k = refused (subst (λ z. IsAnswerOf theory (equation_of z) (Some r)) a k) none
  answers_suc (y ∷ xs) zero x (r ∷ rs) answer w a h k = elim h [ ]
  answers_suc (y ∷ xs) (suc i) x rs answer w a (decreasing d h) k = decreasing d (answers_suc xs i x rs answer (omega arith) a h k)
  answers_suc (y ∷ xs) (suc i) x (r ∷ rs) answer w a (refused d h) k = refused d (answers_suc xs i x rs answer (omega arith) a h k)

  pub added_next : (xs : List Equation) (i : ℕ) (x : Equation) (old new : List Refusal) → i < length xs → x ≡ get_or xs i x →
      AreRefusals theory (map equation_of (take i xs)) old → IsAdded theory (equation_of x) old new →
      AreRefusals theory (map equation_of (take (i + 1) xs)) new
  added_next xs i x old new w a h (answer, k, e) =
      subst (AreRefusals theory (map equation_of (take (i + 1) xs))) (sym e) (rw add-one (answers_suc xs i x old answer w a h k))

  pub answers_end : (xs : List Equation) (i : ℕ) (rs : List Refusal) →
      length xs ≤ i → AreRefusals theory (map equation_of (take i xs)) rs → AreRefusals theory (map equation_of xs) rs
  answers_end xs i rs w h = subst (λ ys. AreRefusals theory (map equation_of ys) rs) (take_all i xs w) h

  pub all_decreasing : (es : List ConditionalEquation) → AreRefusals theory es [] → Each (IsDecreasingAt theory) es
  all_decreasing [] none = tt
  all_decreasing (e ∷ es) (decreasing d h) = (d, all_decreasing es h)

  refuses : (e : ConditionalEquation) (r : Refusal) → IsRefusalOf theory e r → IsDecreasingAt theory e → ⊥
  refuses e r h d = not_each (IsBelow theory h.f h.ps) (sides e) h.side h.first (sides_below theory h.f h.ps e (d h.f h.ps h.left))

  none_refused : (es : List ConditionalEquation) (rs : List Refusal) → AreRefusals theory es rs → Each (IsDecreasingAt theory) es → rs ≡ []
  none_refused [] [] none all = refl
  none_refused [] (r ∷ rs) h all = elim h [ ]
  none_refused (e ∷ es) rs (decreasing d h) all = none_refused es rs h all.1
  none_refused (e ∷ es) (r ∷ rs) (refused d h) all = absurd (refuses e r d all.0)

  pub not_all : (r : Refusal) → IsFirstRefusal theory r → IsDecreasing theory → ⊥
  not_all r h all =
      let k : first_refusal [] ≡ Some r = ap first_refusal (sym (none_refused theory.equations h.refusals h.listed all)) ∙ h.first in cc
