-- Lists of those elements of which something holds.
use Rattle.std.proofs.Common.{◌≡◌, List, [], ◌∷◌, ◌++◌, subst, ap}
use Rattle.spec_core.specs.Lists.{Each}
use Rattle.equation_faults.specs.Firsts.{IsFirstOf}
use Rattle.equation_check.specs.Groups.{AreChosen, none, chosen, left_out}

module _ {A : Type 0} (P : A → Type 0) where
  pub choose_last : (xs ys : List A) (x : A) → P x → AreChosen P xs ys → AreChosen P (xs ++ x ∷ []) (ys ++ x ∷ [])
  choose_last [] [] x p none = chosen p none
  choose_last [] (y ∷ ys) x p h = elim h [ ]
  choose_last (z ∷ xs) (y ∷ ys) x p (chosen q h) = chosen q (choose_last xs ys x p h)
  choose_last (z ∷ xs) ys x p (left_out q h) = left_out q (choose_last xs ys x p h)

  pub leave_last : (xs ys : List A) (x : A) → (P x → ⊥) → AreChosen P xs ys → AreChosen P (xs ++ x ∷ []) ys
  leave_last [] [] x p none = left_out p none
  leave_last [] (y ∷ ys) x p h = elim h [ ]
  leave_last (z ∷ xs) (y ∷ ys) x p (chosen q h) = chosen q (leave_last xs ys x p h)
  leave_last (z ∷ xs) ys x p (left_out q h) = left_out q (leave_last xs ys x p h)

  pub each_chosen : (xs ys : List A) → AreChosen P xs ys → Each P ys
  each_chosen [] [] none = tt
  each_chosen [] (y ∷ ys) h = elim h [ ]
  each_chosen (x ∷ xs) (y ∷ ys) (chosen p h) = (p, each_chosen xs ys h)
  each_chosen (x ∷ xs) ys (left_out p h) = each_chosen xs ys h

  -- what holds of each chosen element, and of each other one, holds of all
  pub all_of : (Q R : A → Type 0) → ((x : A) → P x → Q x → R x) → ((x : A) → (P x → ⊥) → R x) → (xs ys : List A) →
      AreChosen P xs ys → Each Q ys → Each R xs
  all_of Q R both others [] ys h all = tt
  all_of Q R both others (x ∷ xs) (y ∷ ys) (chosen p h) all = (both x p all.0, all_of Q R both others xs ys h all.1)
  all_of Q R both others (x ∷ xs) ys (left_out p h) all = (others x p, all_of Q R both others xs ys h all)

  -- the first chosen element of which Q holds is the first element of which R holds
  first_of_others : {Q : A → Type 0} {y x : A} {ys : List A} → (Q y → ⊥) → IsFirstOf Q ys x → IsFirstOf Q (y ∷ ys) x
  first_of_others {y = y} not f = record {
    before = y ∷ f.before;
    behind = f.behind;
    parts = ap (λ zs. y ∷ zs) f.parts;
    holds = f.holds;
    none_before = (not, f.none_before);
  }

  pub first_of : (Q R : A → Type 0) → ((x : A) → P x → Q x → R x) → ((x : A) → R x → Q x) → ((x : A) → R x → P x) →
      (xs ys before behind : List A) (d : A) → AreChosen P xs ys → ys ≡ before ++ d ∷ behind → Q d → Each (λ y. Q y → ⊥) before → IsFirstOf R xs d
  first_of Q R both back only [] [] [] behind d h e q all = cc
  first_of Q R both back only [] [] (b ∷ before) behind d h e q all = cc
  first_of Q R both back only [] (y ∷ ys) before behind d h e q all = elim h [ ]
  first_of Q R both back only (x ∷ xs) (y ∷ ys) [] behind d (chosen p h) e q all =
      let same : x ≡ d = cc in
      record { before = []; behind = xs; parts = ap (λ z. z ∷ xs) same; holds = both d (subst P same p) q; none_before = tt }
  first_of Q R both back only (x ∷ xs) (y ∷ ys) (b ∷ before) behind d (chosen p h) e q all =
      let same : x ≡ b = cc in
      let rest : ys ≡ before ++ d ∷ behind = cc in
      first_of_others (λ r. all.0 (subst Q same (back x r))) (first_of Q R both back only xs ys before behind d h rest q all.1)
  first_of Q R both back only (x ∷ xs) ys before behind d (left_out p h) e q all =
      first_of_others (λ r. p (only x r)) (first_of Q R both back only xs ys before behind d h e q all)
