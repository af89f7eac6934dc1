-- Lists of sorts, headings and names, as loops go over them.
use Rattle.std.proofs.Common.{ℕ, add-one, arith, ◌≡◌, ◌∙◌, ◌<◌, ◌≤◌, ◌+◌, refl, sym, ap, List, [], ◌∷◌, ◌++◌, length, get_or, take, drop, map, append_assoc, append-nil, Option, Some, None}
use Rattle.std.specs.List.{flat_map, range_with_len}
use Rattle.std.proofs.lemmas.Grind.{flat_map-append}
use Rattle.std.proofs.lemmas.List.{map-append, drop_all, take_all}
use Rattle.spec_core.proofs.Lists.{range_suc, take_next}
use Rattle.lotos_ast.specs.declared.token.Token.{Token}
use Rattle.sort_overloads.proofs.Loops.{dropped-next}
use Rattle.sort_overloads.specs.Readings.{Context}
use Rattle.static_readings.specs.ReadsAll.{before, all_before}
use Rattle.static_readings.specs.Sites.{Heading}
use Rattle.static_processes.specs.Headings.{known_sort, known_sorts, heading, headings_from}
use Rattle.static_processes.specs.Processes as processes
use Rattle.static_processes.specs.Processes.{stands_in, names_in}
use Rattle.static_processes.specs.declared.entry.Entry.{Entry}
use Rattle.static_processes.specs.Views.{entry_of}

one_further : {B : Type 0} (xs : List B) (y : B) (rest : Option (List B)) → all_before (Some xs) (before (Some y) rest) ≡ all_before (Some (xs ++ y ∷ [])) rest
one_further xs y None = refl
one_further xs y (Some ys) = ap Some (sym (append_assoc xs (y ∷ []) ys))

pub further : (c : Context) (ts : List Token) (i : ℕ) (t : Token) (ns ms : List ℕ) (n : ℕ) → i < length ts → t ≡ get_or ts i t → known_sort c t ≡ Some n
    → ms ≡ ns ++ n ∷ [] → all_before (Some ns) (known_sorts c (drop i ts)) ≡ known_sorts c ts
    → all_before (Some ms) (known_sorts c (drop (i + 1) ts)) ≡ known_sorts c ts
further c ts i t ns ms n within at found more h =
    ap (λ z. all_before (Some z) (known_sorts c (drop (i + 1) ts))) more ∙ sym (one_further ns n (known_sorts c (drop (i + 1) ts)))
    ∙ ap (λ o. all_before (Some ns) (before o (known_sorts c (drop (i + 1) ts)))) (sym found)
    ∙ ap (λ us. all_before (Some ns) (known_sorts c us)) (sym (dropped-next ts i t within at)) ∙ h

pub further_none : (c : Context) (ts : List Token) (i : ℕ) (t : Token) (ns : List ℕ) → i < length ts → t ≡ get_or ts i t → known_sort c t ≡ None
    → all_before (Some ns) (known_sorts c (drop i ts)) ≡ known_sorts c ts → None ≡ known_sorts c ts
further_none c ts i t ns within at found h =
    ap (λ o. all_before (Some ns) (before o (known_sorts c (drop (i + 1) ts)))) (sym found)
    ∙ ap (λ us. all_before (Some ns) (known_sorts c us)) (sym (dropped-next ts i t within at)) ∙ h

pub at_end : (c : Context) (ts : List Token) (i : ℕ) (ns : List ℕ) → length ts ≤ i → all_before (Some ns) (known_sorts c (drop i ts)) ≡ known_sorts c ts
    → Some ns ≡ known_sorts c ts
at_end c ts i ns past h = ap Some (sym (append-nil ns)) ∙ ap (λ us. all_before (Some ns) (known_sorts c us)) (sym (drop_all i ts past)) ∙ h

-- one more heading

pub heading_next : (c : Context) (table : List Entry) (i : ℕ) (e : Entry) (all more whole : List Heading) → i < length table → e ≡ get_or table i e
    → all ++ headings_from c i (map entry_of (drop i table)) ≡ whole
    → more ≡ all ++ heading c i (entry_of e).process ∷ []
    → more ++ headings_from c (i + 1) (map entry_of (drop (i + 1) table)) ≡ whole
heading_next c table i e all more whole w at is put =
    let rest = headings_from c (i + 1) (map entry_of (drop (i + 1) table)) in
    ap (λ z. z ++ rest) put ∙ append_assoc all (heading c i (entry_of e).process ∷ []) rest
    ∙ ap (λ es. all ++ headings_from c i (map entry_of es)) (sym (dropped-next table i e w at)) ∙ is

pub headings_all : (c : Context) (table : List Entry) (i : ℕ) (all whole : List Heading) → length table ≤ i
    → all ++ headings_from c i (map entry_of (drop i table)) ≡ whole → all ≡ whole
headings_all c table i all whole past h =
    sym (append-nil all) ∙ ap (λ es. all ++ headings_from c i (map entry_of es)) (sym (drop_all i table past)) ∙ h

-- what one more process adds

pub added_next : {A : Type 0} (f : processes.Entry → List A) (table : List Entry) (i : ℕ) (e : Entry) (base all more : List A) → i < length table → e ≡ get_or table i e
    → all ≡ base ++ flat_map f (map entry_of (take i table)) → more ≡ all ++ f (entry_of e)
    → more ≡ base ++ flat_map f (map entry_of (take (i + 1) table))
added_next f table i e base all more w at is put =
    let front = map entry_of (take i table) in
    put ∙ ap (λ z. z ++ f (entry_of e)) is ∙ append_assoc base (flat_map f front) (f (entry_of e))
    ∙ ap (λ z. base ++ (flat_map f front ++ z)) (sym (append-nil (f (entry_of e))))
    ∙ ap (λ z. base ++ z) (sym (flat_map-append f front (entry_of e ∷ [])))
    ∙ ap (λ es. base ++ flat_map f es) (sym (map-append entry_of (take i table) (e ∷ [])))
    ∙ ap (λ us. base ++ flat_map f (map entry_of us)) (sym (take_next table i e w at))

pub added_all : {A : Type 0} (f : processes.Entry → List A) (table : List Entry) (i : ℕ) (base all : List A) → length table ≤ i
    → all ≡ base ++ flat_map f (map entry_of (take i table)) → all ≡ base ++ flat_map f (map entry_of table)
added_all f table i base all past h = h ∙ ap (λ us. base ++ flat_map f (map entry_of us)) (take_all i table past)

-- one more number of a range

range_next : (n : ℕ) → range_with_len 0 (n + 1) ≡ range_with_len 0 n ++ n ∷ []
range_next n = ap (range_with_len 0) (add-one n) ∙ range_suc 0 n ∙ ap (λ z. range_with_len 0 n ++ z ∷ []) (omega arith)

pub ranged_next : {A : Type 0} (f : ℕ → List A) (n : ℕ) (base all more : List A) → all ≡ base ++ flat_map f (range_with_len 0 n) → more ≡ all ++ f n
    → more ≡ base ++ flat_map f (range_with_len 0 (n + 1))
ranged_next f n base all more is put =
    put ∙ ap (λ z. z ++ f n) is ∙ append_assoc base (flat_map f (range_with_len 0 n)) (f n)
    ∙ ap (λ z. base ++ (flat_map f (range_with_len 0 n) ++ z)) (sym (append-nil (f n)))
    ∙ ap (λ z. base ++ z) (sym (flat_map-append f (range_with_len 0 n) (n ∷ [])))
    ∙ ap (λ zs. base ++ flat_map f zs) (sym (range_next n))
