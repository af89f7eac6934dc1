-- The first of several refusals.
use Rattle.std.proofs.Common.{ℕ, zero, suc, ◌≡◌, List, [], ◌∷◌, ◌++◌, arith, ap, subst, sym, ◌∙◌, refl, append_assoc, Option, Some, None, Bool, true, false, ◌&&◌, ◌||◌, ◌⊎◌, inl, inr, nat_lt, nat_eq}
use Rattle.std.specs.Prelude.{if◌then◌else◌}
use Rattle.std.specs.List.{fold, Contains}
use Rattle.std.proofs.lemmas.Grind.{common_steps}
use Rattle.std.proofs.lemmas.List.{append-nil}
use Rattle.std.proofs.lemmas.List.Elements.{Contains-append_cases, Contains-append_right}
use Rattle.std.proofs.lemmas.Option.{none-some}
use Rattle.spec_core.proofs.Members.{contains_none}
use Rattle.lotos_ast.specs.Refusals.{number_of}
use Rattle.lotos_ast.specs.declared.refusal.Refusal.{Refusal}
use Rattle.lotos_ast.specs.FirstRefusals.{comes_before, sooner, first_refusal, IsFirst, StandsFirst, FirstOfAListIsFirst, FirstOfAListStandsFirst}

-- the order, of lines, columns and numbers

abbrev keys : (l c n l' c' n' : ℕ) → Bool
keys l c n l' c' n' = nat_lt l l' || (nat_eq l l' && (nat_lt c c' || (nat_eq c c' && nat_lt n n')))

keys_through : (l c n l' c' n' l'' c'' n'' : ℕ) → keys l c n l' c' n' ≡ true → keys l' c' n' l'' c'' n'' ≡ true → keys l c n l'' c'' n'' ≡ true
keys_through l c n l' c' n' l'' c'' n'' h k = grind (arith, common_steps)

keys_past : (l c n l' c' n' l'' c'' n'' : ℕ) → keys l c n l' c' n' ≡ true → keys l'' c'' n'' l' c' n' ≡ false → keys l c n l'' c'' n'' ≡ true
keys_past l c n l' c' n' l'' c'' n'' h k = grind (arith, common_steps)

keys_neither : (l c n l' c' n' l'' c'' n'' : ℕ) → keys l c n l' c' n' ≡ false → keys l' c' n' l'' c'' n'' ≡ false → keys l c n l'' c'' n'' ≡ false
keys_neither l c n l' c' n' l'' c'' n'' h k = grind (arith, common_steps)

keys_one_way : (l c n l' c' n' : ℕ) → keys l c n l' c' n' ≡ true → keys l' c' n' l c n ≡ false
keys_one_way l c n l' c' n' h = grind (arith, common_steps)

keys_not_self : (l c n : ℕ) → keys l c n l c n ≡ false
keys_not_self l c n = grind (arith, common_steps)

before_through : (s f x : Refusal) → comes_before s f ≡ true → comes_before f x ≡ true → comes_before s x ≡ true
before_through s f x h k = keys_through s.place.line s.place.column (number_of s.kind) f.place.line f.place.column (number_of f.kind) x.place.line x.place.column (number_of x.kind) h k

before_past : (s f x : Refusal) → comes_before s f ≡ true → comes_before x f ≡ false → comes_before s x ≡ true
before_past s f x h k = keys_past s.place.line s.place.column (number_of s.kind) f.place.line f.place.column (number_of f.kind) x.place.line x.place.column (number_of x.kind) h k

before_neither : (s f x : Refusal) → comes_before s f ≡ false → comes_before f x ≡ false → comes_before s x ≡ false
before_neither s f x h k = keys_neither s.place.line s.place.column (number_of s.kind) f.place.line f.place.column (number_of f.kind) x.place.line x.place.column (number_of x.kind) h k

one_way : (s f : Refusal) → comes_before s f ≡ true → comes_before f s ≡ false
one_way s f h = keys_one_way s.place.line s.place.column (number_of s.kind) f.place.line f.place.column (number_of f.kind) h

not_self : (r : Refusal) → comes_before r r ≡ false
not_self r = keys_not_self r.place.line r.place.column (number_of r.kind)

-- what stands in lists

in_one : {A : Type 0} (r x : A) → Contains (r ∷ []) x → r ≡ x
in_one r x (zero, within, at) = at
in_one r x (suc k, within, at) = absurd (omega arith)

of_either : {A : Type 0} (P : A → Type 0) (xs ys : List A) → ((x : A) → Contains xs x → P x) → ((x : A) → Contains ys x → P x) → (x : A) → Contains (xs ++ ys) x → P x
of_either P xs ys f g x h = by_part (Contains-append_cases xs ys x h)
  where
    by_part : Contains xs x ⊎ Contains ys x → P x
    by_part (inl k) = f x k
    by_part (inr k) = g x k

of_one : {A : Type 0} (P : A → Type 0) (r : A) → P r → (x : A) → Contains (r ∷ []) x → P x
of_one P r h x k = subst P (in_one r x k) h

-- one more in a list

new_first : (seen : List Refusal) (f s : Refusal) → StandsFirst seen f → comes_before s f ≡ true → StandsFirst (seen ++ s ∷ []) s
new_first seen f s h t = record {
  before = seen;
  behind = [];
  parts = refl;
  sooner_than = subst (λ zs. (x : Refusal) → Contains zs x → comes_before s x ≡ true) (sym h.parts)
      (of_either (λ x. comes_before s x ≡ true) h.before (f ∷ h.behind)
      (λ x k. before_through s f x t (h.sooner_than x k))
      (of_either (λ x. comes_before s x ≡ true) (f ∷ []) h.behind (of_one (λ x. comes_before s x ≡ true) f t) (λ x k. before_past s f x t (h.none_sooner x k))));
  none_sooner = λ x k. absurd (contains_none x k);
}

kept_first : (seen : List Refusal) (f s : Refusal) → StandsFirst seen f → comes_before s f ≡ false → StandsFirst (seen ++ s ∷ []) f
kept_first seen f s h t = record {
  before = h.before;
  behind = h.behind ++ s ∷ [];
  parts = ap (λ zs. zs ++ s ∷ []) h.parts ∙ append_assoc h.before (f ∷ h.behind) (s ∷ []);
  sooner_than = h.sooner_than;
  none_sooner = of_either (λ x. comes_before x f ≡ false) h.behind (s ∷ []) h.none_sooner (of_one (λ x. comes_before x f ≡ false) s t);
}

first_from : (seen rs : List Refusal) (f r : Refusal) → StandsFirst seen f → fold (λ found s. sooner found (Some s)) (Some f) rs ≡ Some r → StandsFirst (seen ++ rs) r
first_from seen [] f r h e = subst (λ zs. StandsFirst zs r) (sym (append-nil seen)) (subst (StandsFirst seen) (same f r e) h)
  where
    same : (f r : Refusal) → Some f ≡ Some r → f ≡ r
    same f r e = cc
first_from seen (s ∷ rs) f r h e = subst (λ zs. StandsFirst zs r) (append_assoc seen (s ∷ []) rs) (by_test (λ g k t. first_from (seen ++ s ∷ []) rs g r k t) (comes_before s f) refl)
  where
    by_test : ((g : Refusal) → StandsFirst (seen ++ s ∷ []) g → fold (λ found s. sooner found (Some s)) (Some g) rs ≡ Some r → StandsFirst ((seen ++ s ∷ []) ++ rs) r) → (b : Bool) → comes_before s f ≡ b → StandsFirst ((seen ++ s ∷ []) ++ rs) r
    by_test more true t = more s (new_first seen f s h t) (rw t at e)
    by_test more false t = more f (kept_first seen f s h t) (rw t at e)

only_one : (r : Refusal) → StandsFirst (r ∷ []) r
only_one r = record { before = []; behind = []; parts = refl; sooner_than = λ x k. absurd (contains_none x k); none_sooner = λ x k. absurd (contains_none x k) }

pub first_of_a_list_stands_first : FirstOfAListStandsFirst
first_of_a_list_stands_first [] r e = absurd (none-some r e)
first_of_a_list_stands_first (f ∷ rs) r e = first_from (f ∷ []) rs f r (only_one f) e

-- a list with a refusal has a first one
some_first : (f : Refusal) (rs : List Refusal) → fold (λ found s. sooner found (Some s)) (Some f) rs ≡ None → ⊥
some_first f [] e = cc
some_first f (r ∷ rs) e = by_test (λ g h. some_first g rs h) (comes_before r f) refl
  where
    by_test : ((g : Refusal) → fold (λ found s. sooner found (Some s)) (Some g) rs ≡ None → ⊥) → (b : Bool) → comes_before r f ≡ b → ⊥
    by_test more true t = more r (rw t at e)
    by_test more false t = more f (rw t at e)

pub none_first : (rs : List Refusal) → first_refusal rs ≡ None → rs ≡ []
none_first [] e = refl
none_first (r ∷ rs) e = absurd (some_first r rs e)

first_in_list : (refusals : List Refusal) (r : Refusal) → StandsFirst refusals r → IsFirst (Contains refusals) (Some r)
first_in_list refusals r h = (
  subst (λ zs. Contains zs r) (sym h.parts) (Contains-append_right h.before (r ∷ h.behind) r (0, omega arith, refl)),
  subst (λ zs. (s : Refusal) → Contains zs s → comes_before s r ≡ false) (sym h.parts)
      (of_either (λ s. comes_before s r ≡ false) h.before (r ∷ h.behind) (λ s k. one_way r s (h.sooner_than s k))
      (of_either (λ s. comes_before s r ≡ false) (r ∷ []) h.behind (of_one (λ s. comes_before s r ≡ false) r (not_self r)) h.none_sooner)),
)

pub first_of_a_list_is_first : FirstOfAListIsFirst
first_of_a_list_is_first refusals = by_first (first_refusal refusals) refl
  where
    by_first : (found : Option Refusal) → first_refusal refusals ≡ found → IsFirst (Contains refusals) found
    by_first None e = λ s h. contains_none s (subst (λ zs. Contains zs s) (none_first refusals e) h)
    by_first (Some r) e = first_in_list refusals r (first_of_a_list_stands_first refusals r e)

-- the first of all of which one of two conditions holds is the sooner one of the first of each

-- where the sooner of two is the second, what doesn't come before the first doesn't come before it
not_before_other : (one other s : Refusal) → comes_before other one ≡ true → comes_before s one ≡ false → comes_before s other ≡ false
not_before_other one other s h k = before_neither s one other k (one_way other one h)

pub first_of_both : (P Q R : Refusal → Type 0) (one other : Option Refusal) → ((s : Refusal) → R s → P s ⊎ Q s) → ((s : Refusal) → P s → R s) → ((s : Refusal) → Q s → R s) → IsFirst P one → IsFirst Q other → IsFirst R (sooner one other)
first_of_both P Q R None None split left right h k = λ s m. elim (split s m) [ inl p ↦ h s p | inr q ↦ k s q ]
first_of_both P Q R None (Some y) split left right h k = (right y k.0, λ s m. elim (split s m) [ inl p ↦ absurd (h s p) | inr q ↦ k.1 s q ])
first_of_both P Q R (Some x) None split left right h k = (left x h.0, λ s m. elim (split s m) [ inl p ↦ h.1 s p | inr q ↦ absurd (k s q) ])
first_of_both P Q R (Some x) (Some y) split left right h k = by_test (comes_before y x) refl
  where
    by_test : (b : Bool) → comes_before y x ≡ b → IsFirst R (if b then Some y else Some x)
    by_test true t = (right y k.0, λ s m. elim (split s m) [ inl p ↦ not_before_other x y s t (h.1 s p) | inr q ↦ k.1 s q ])
    by_test false t = (left x h.0, λ s m. elim (split s m) [ inl p ↦ h.1 s p | inr q ↦ before_neither s y x (k.1 s q) t ])
