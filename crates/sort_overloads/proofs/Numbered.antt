-- Operations by their numbers.
use Rattle.std.proofs.Common.{Option, Some, None, ℕ, zero, suc, ◌≡◌, ◌<◌, ◌+◌, List, [], ◌∷◌, ◌++◌, length, map, take, get_or, refl, ap, sym, subst, ◌∙◌, arith, append_assoc, Bool, true, false, not, ◌==◌, add-one, ◌||◌, if◌then◌else◌}
use Rattle.std.proofs.lemmas.Grind.{flat_map-append}
use Rattle.std.proofs.lemmas.List.{append-nil, map-append}
use Rattle.std.proofs.lemmas.Cmp.{nat_list_eq_equiv}
use Rattle.std.specs.List.{list_any, slice_get, flat_map}
use Rattle.std.specs.Str.{bytes_eq}
use Rattle.std.proofs.Math.Seq.{take-suc}
use Rattle.spec_core.specs.Theories.{Operation}
use Rattle.spec_core.proofs.Lists.{take_next}
use Rattle.sort_overloads.specs.Indexes.{numbers_from, numbers_of}
use Rattle.sort_overloads.specs.Listed.{Typed, is_same_name, argument_lists, application, of_operation, of_operations}

numbers-join : (name : List ℕ) (f : ℕ) (ds es : List Operation) → numbers_from name f (ds ++ es) ≡ numbers_from name f ds ++ numbers_from name (f + length ds) es
numbers-join name f [] es = ap (λ i. numbers_from name i es) (omega arith)
numbers-join name f (d ∷ ds) es =
    let e : suc f + length ds ≡ f + suc (length ds) = omega arith in
    let here = if is_same_name d.name name then f ∷ [] else [] in
    ap (λ z. here ++ z) (numbers-join name (suc f) ds es ∙ ap (λ i. numbers_from name (suc f) ds ++ numbers_from name i es) e)
    ∙ sym (append_assoc here (numbers_from name (suc f) ds) (numbers_from name (f + suc (length ds)) es))

-- one more operation of a list that a loop goes over
pub numbers-next : {A : Type 0} (view : A → Operation) (name : List ℕ) (ds : List A) (i : ℕ) (d : A) → i < length ds → d ≡ get_or ds i d →
    numbers_from name 0 (map view (take (i + 1) ds)) ≡ numbers_from name 0 (map view (take i ds)) ++ (if is_same_name (view d).name name then i ∷ [] else [])
numbers-next {A = A} view name ds i d within at =
    ap (λ k. numbers_from name 0 (map view k)) (take_next ds i d within at)
    ∙ ap (numbers_from name 0) (map-append view (take i ds) (d ∷ []))
    ∙ numbers-join name 0 (map view (take i ds)) (view d ∷ [])
    ∙ ap (λ z. numbers_from name 0 (map view (take i ds)) ++ z) (append-nil (here (0 + length (map view (take i ds)))) ∙ ap here (counted ds i within))
  where
    here : ℕ → List ℕ
    here k = if is_same_name (view d).name name then k ∷ [] else []

    counted : (ds : List A) (i : ℕ) → i < length ds → 0 + length (map view (take i ds)) ≡ i
    counted [] i h = absurd (omega arith)
    counted (d ∷ ds) zero h = refl
    counted (d ∷ ds) (suc i) h = let r = counted ds i (omega arith) in omega (arith, r)

-- some operation has the name where there are numbers of it
pub any-numbers : (name : List ℕ) (f : ℕ) (ds : List Operation) → not (length (numbers_from name f ds) == 0) ≡ list_any (λ d. is_same_name d.name name) ds
any-numbers name f [] = refl
any-numbers name f (d ∷ ds) = go (is_same_name d.name name) (any-numbers name (suc f) ds)
  where
    go : (b : Bool) → not (length (numbers_from name (suc f) ds) == 0) ≡ list_any (λ d. is_same_name d.name name) ds →
        not (length ((if b then f ∷ [] else []) ++ numbers_from name (suc f) ds) == 0) ≡ (b || list_any (λ d. is_same_name d.name name) ds)
    go true h = grind arith
    go false h = h

any-either : {A : Type 0} (p q : A → Bool) (xs : List A) → list_any p xs || list_any q xs ≡ list_any (λ x. p x || q x) xs
any-either p q [] = refl
any-either p q (x ∷ xs) = go (p x) (q x) (list_any p xs) (list_any q xs) (any-either p q xs)
  where
    go : (a b c d : Bool) → c || d ≡ list_any (λ y. p y || q y) xs → (a || c) || (b || d) ≡ (a || b) || list_any (λ y. p y || q y) xs
    go true b c d h = refl
    go false true true d h = refl
    go false true false d h = refl
    go false false c d h = h

-- some operation has one of two names
pub either-known : (one other : List ℕ) (ds : List Operation) → list_any (λ d. is_same_name d.name one) ds || list_any (λ d. is_same_name d.name other) ds ≡ list_any (λ d. is_same_name d.name one || is_same_name d.name other) ds
either-known one other = any-either (λ d. is_same_name d.name one) (λ d. is_same_name d.name other)

-- each number is one of an operation
numbers-within : (name : List ℕ) (f : ℕ) (ds : List Operation) (i : ℕ) → i < length (numbers_from name f ds) → get_or (numbers_from name f ds) i 0 < f + length ds
numbers-within name f [] = λ i within. absurd (omega arith)
numbers-within name f (d ∷ ds) = λ i. go (is_same_name d.name name) i (numbers-within name (suc f) ds)
  where
    go : (b : Bool) (i : ℕ) → ((j : ℕ) → j < length (numbers_from name (suc f) ds) → get_or (numbers_from name (suc f) ds) j 0 < suc f + length ds) →
        i < length ((if b then f ∷ [] else []) ++ numbers_from name (suc f) ds) → get_or ((if b then f ∷ [] else []) ++ numbers_from name (suc f) ds) i 0 < f + suc (length ds)
    go true zero h within = omega arith
    go true (suc i) h within = let r = h i (omega arith) in omega (arith, r)
    go false i h within = let r = h i within in omega (arith, r)

counted : {A B : Type 0} (view : A → B) (xs : List A) → length (map view xs) ≡ length xs
counted view [] = refl
counted view (x ∷ xs) = ap suc (counted view xs)

pub number-within : {A : Type 0} (view : A → Operation) (name : List ℕ) (ds : List A) (ns : List ℕ) (i : ℕ) → ns ≡ numbers_of name (map view ds) → i < length ns → get_or ns i 0 < length ds
number-within view name ds ns i e within =
    let r = numbers-within name 0 (map view ds) i (subst (λ z. i < length z) e within) in
    subst (λ z. get_or z i 0 < length ds) (sym e) (subst (λ z. get_or (numbers_of name (map view ds)) i 0 < z) (counted view ds) (omega (arith, r)))

-- what an operation gives, where there is one
pub of_entry : List ℕ → List (List Typed) → ℕ → Option Operation → List Typed
of_entry name parts f None = []
of_entry name parts f (Some d) = of_operation name parts f d

-- what the operation of a number gives
abbrev pub of_number : List ℕ → List (List Typed) → List Operation → ℕ → List Typed
of_number name parts ds f = of_entry name parts f (slice_get ds f)

by_numbers : (name : List ℕ) (parts : List (List Typed)) (all : List Operation) (f : ℕ) (ds : List Operation) → ((j : ℕ) → slice_get all (f + j) ≡ slice_get ds j) →
    flat_map (of_number name parts all) (numbers_from name f ds) ≡ of_operations name parts f ds
unfolding of_entry
by_numbers name parts all f [] h = refl
by_numbers name parts all f (d ∷ ds) h = step (is_same_name d.name name) refl (by_numbers name parts all (suc f) ds (λ j. ap (slice_get all) (omega arith) ∙ h (suc j)))
  where
    here : slice_get all f ≡ Some d
    here = ap (slice_get all) (omega arith) ∙ h 0

    step : (b : Bool) → is_same_name d.name name ≡ b → flat_map (of_number name parts all) (numbers_from name (suc f) ds) ≡ of_operations name parts (suc f) ds → flat_map (of_number name parts all) ((if b then f ∷ [] else []) ++ numbers_from name (suc f) ds) ≡ of_operation name parts f d ++ of_operations name parts (suc f) ds
    step true e others = ap (λ z. of_entry name parts f z ++ flat_map (of_number name parts all) (numbers_from name (suc f) ds)) here ∙ ap (λ z. of_operation name parts f d ++ z) others
    step false e others = others ∙ ap (λ k. (if k then map (application f d.result) (argument_lists ([] ∷ []) parts d.args) else []) ++ of_operations name parts (suc f) ds) (sym e)

-- what the operations of a name give is what all operations give
pub all-by-numbers : (name : List ℕ) (parts : List (List Typed)) (ds : List Operation) → flat_map (of_number name parts ds) (numbers_of name ds) ≡ of_operations name parts 0 ds
all-by-numbers name parts ds = by_numbers name parts ds 0 ds (λ j. ap (slice_get ds) (omega arith))

got : {A : Type 0} (view : A → Operation) (ds : List A) (f : ℕ) (d : A) → f < length ds → d ≡ get_or ds f d → slice_get (map view ds) f ≡ Some (view d)
got view [] f d within at = absurd (omega arith)
got view (e ∷ ds) zero d within at = ap (λ z. Some (view z)) (sym at)
got view (e ∷ ds) (suc f) d within at = got view ds f d (omega arith) at

-- one more number of a list that a loop goes over
pub by-numbers-next : {A : Type 0} (view : A → Operation) (name : List ℕ) (parts : List (List Typed)) (ds : List A) (ns : List ℕ) (i : ℕ) (d : A) → i < length ns → get_or ns i 0 < length ds → d ≡ get_or ds (get_or ns i 0) d →
    flat_map (of_number name parts (map view ds)) (take (i + 1) ns) ≡ flat_map (of_number name parts (map view ds)) (take i ns) ++ of_operation name parts (get_or ns i 0) (view d)
unfolding of_entry
by-numbers-next view name parts ds ns i d within there is =
    let g = of_number name parts (map view ds) in
    let f = get_or ns i 0 in
    ap (λ k. flat_map g (take k ns)) (add-one i) ∙ ap (flat_map g) (take-suc ns i 0 within) ∙ flat_map-append g (take i ns) (f ∷ [])
    ∙ ap (λ z. flat_map g (take i ns) ++ z) (append-nil (g f) ∙ ap (of_entry name parts f) (got view ds f d there is))

-- the order of two texts doesn't matter for whether they are the same
pub same-either-way : (xs ys : List ℕ) → bytes_eq xs ys ≡ bytes_eq ys xs
same-either-way = nat_list_eq_equiv.symm
