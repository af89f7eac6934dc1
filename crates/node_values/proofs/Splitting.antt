-- Lists split at their first element, and facts about what a call gives.
use Rattle.std.proofs.Common.{ℕ, ◌≡◌, ◌≤◌, List, [], ◌∷◌, length, map, take, drop, get_or, ◌-◌, arith, sym, ap, ◌∙◌}
use Rattle.std.proofs.Common.{Option, Some, None, IfSome, IfNone, Result, Ok, Err, IfOk}
use Rattle.std.proofs.Math.Seq.{drop-cons}
use Rattle.std.proofs.lemmas.List.{length-drop, take_all}

-- the others, after the first element of a list
abbrev pub others : {A : Type 0} → List A → List A
others xs = take (length xs - 1) (drop 1 xs)

pub split_at : {A : Type 0} (xs : List A) (x y : A) → 1 ≤ length xs → x ≡ get_or xs 0 x → x ≡ y → xs ≡ y ∷ others xs
split_at xs x y there is same =
    let few : length (drop 1 xs) ≤ length xs - 1 = omega (arith, length-drop 1 xs) in
    drop-cons xs 0 x there
    ∙ ap (λ ys. get_or xs 0 x ∷ ys) (sym (take_all (length xs - 1) (drop 1 xs) few))
    ∙ ap (λ z. z ∷ others xs) (sym is ∙ same)

pub mapped : {A B : Type 0} (g : A → B) (xs : List A) (x y : A) → 1 ≤ length xs → x ≡ get_or xs 0 x → x ≡ y →
    map g xs ≡ g y ∷ map g (others xs)
mapped g xs x y there is same = ap (map g) (split_at xs x y there is same)

pub mapped_at : {A B : Type 0} (g : A → B) (xs : List A) (d : A) → 1 ≤ length xs → map g xs ≡ g (get_or xs 0 d) ∷ map g (others xs)
mapped_at g xs d there =
    let few : length (drop 1 xs) ≤ length xs - 1 = omega (arith, length-drop 1 xs) in
    ap (map g) (drop-cons xs 0 d there ∙ ap (λ ys. get_or xs 0 d ∷ ys) (sym (take_all (length xs - 1) (drop 1 xs) few)))

pub some_on : {A : Type 0} (o : Option A) (P Q : A → Type 0) → ((x : A) → P x → Q x) → IfSome o P → IfSome o Q
some_on None P Q k h = h
some_on (Some x) P Q k h = k x h

pub none_on : {A : Type 0} (o : Option A) (P Q : Type 0) → (P → Q) → IfNone o P → IfNone o Q
none_on None P Q k h = k h
none_on (Some x) P Q k h = h

pub some_ok_on : {A E : Type 0} (r : Result (Option A) E) (P Q : A → Type 0) → ((x : A) → P x → Q x) → IfOk r (λ o. IfSome o P) →
    IfOk r (λ o. IfSome o Q)
some_ok_on (Ok o) P Q k h = some_on o P Q k h
some_ok_on (Err e) P Q k h = h

pub none_ok_on : {A E : Type 0} (r : Result (Option A) E) (P Q : Type 0) → (P → Q) → IfOk r (λ o. IfNone o P) → IfOk r (λ o. IfNone o Q)
none_ok_on (Ok o) P Q k h = none_on o P Q k h
none_ok_on (Err e) P Q k h = h
