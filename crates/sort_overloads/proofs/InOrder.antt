-- The list of all readings is in order.
use Rattle.std.proofs.Common.{Option, Some, None, ℕ, suc, ◌≡◌, inl, inr, ◌+◌, ◌==◌, List, [], ◌∷◌, ◌++◌, length, map}
use Rattle.std.proofs.Common.{refl, ap, sym, subst, ◌∙◌, arith, append_assoc, Bool, true, false, if◌then◌else◌}
use Rattle.std.proofs.lemmas.List.{append-nil, length-append}
use Rattle.std.specs.List.{slice_get}
use Rattle.lotos_ast.specs.declared.token.Token.{Token}
use Rattle.spec_core.specs.Lists.{Each, IsOneOf}
use Rattle.spec_core.specs.Sorts.{OnSome}
use Rattle.spec_core.specs.Terms.{TermTree, TermTrees, variable, apply, no_terms, and_term, terms, preorder, preorders}
use Rattle.spec_core.specs.Theories.{Operation}
use Rattle.spec_core.specs.Windows.{IsLess}
use Rattle.spec_core.proofs.Members.{each_from, each_one, from_map}
use Rattle.spec_core.proofs.Lists.{each_append}
use Rattle.sort_overloads.specs.Expressions.{Expression, Expressions, named, applied, said, nothing, no_expressions, and_expression}
use Rattle.sort_overloads.specs.Readings.{Context, spelling, IsReading, AreReadings}
use Rattle.sort_overloads.specs.Listed.{Typed, those, of_sort, is_same_name, extended, argument_lists, application}
use Rattle.sort_overloads.specs.Listed.{of_operation, of_operations, name_readings, readings, all_readings}
use Rattle.sort_overloads.proofs.Members.{Given, operation-sound, operations-sound}
use Rattle.sort_overloads.proofs.Law.{Found, missing, found, find, no-variable, sound}

-- all readings of an expression have one number of operations
size-of : (t u : TermTree) → t ≡ u → length (preorder t) ≡ length (preorder u)
size-of t u e = ap (λ z. length (preorder z)) e

on-two : {A : Type 0} {P Q : A → Type 0} {R : Type 0} (o p : Option A) → OnSome o P → OnSome p Q → ((x y : A) → P x → Q y → R) → R
on-two None p h k f = absurd h
on-two (Some x) None h k f = absurd k
on-two (Some x) (Some y) h k f = f x y h k

mutual
  pub same-size : (c : Context) (e : Expression) (t u : TermTree) (s r : ℕ) → IsReading c e t s → IsReading c e u r
      → length (preorder t) ≡ length (preorder u)
  same-size c (named name) t u s r (inl h) (inl k) = size-of t (variable h.0) h.1 ∙ sym (size-of u (variable k.0) k.1)
  same-size c (named name) t u s r (inl h) (inr k) = absurd (no-variable name.text c.variables h.0 s k.0 h.2)
  same-size c (named name) t u s r (inr h) (inl k) = absurd (no-variable name.text c.variables k.0 r h.0 k.2)
  same-size c (named name) t u s r (inr h) (inr k) = size-of t (apply h.1.0 no_terms) h.1.1 ∙ sym (size-of u (apply k.1.0 no_terms) k.1.1)
  same-size c (applied position name es) t u s r h k =
      let e : length (preorders h.1) ≡ length (preorders k.1) = on-two (slice_get c.operations h.0) (slice_get c.operations k.0) h.3
      k.3 (λ d b x y. same-sizes c es h.1 k.1 d.args b.args x.2 y.2) in
      size-of t (apply h.0 h.1) h.2 ∙ ap suc e ∙ sym (size-of u (apply k.0 k.1) k.2)
  same-size c (said e name) t u s r h k = same-size c e t u s r h.0 k.0
  same-size c nothing t u s r h k = absurd h

  pub same-sizes : (c : Context) (es : Expressions) (ts us : TermTrees) (ss rs : List ℕ) → AreReadings c es ts ss
      → AreReadings c es us rs → length (preorders ts) ≡ length (preorders us)
  same-sizes c no_expressions no_terms no_terms ss rs h k = refl
  same-sizes c no_expressions no_terms (and_term u us) ss rs h k = absurd k
  same-sizes c no_expressions (and_term t ts) us ss rs h k = absurd h
  same-sizes c (and_expression e es) no_terms us ss rs h k = absurd h
  same-sizes c (and_expression e es) (and_term t ts) no_terms ss rs h k = absurd k
  same-sizes c (and_expression e es) (and_term t ts) (and_term u us) [] rs h k = absurd h
  same-sizes c (and_expression e es) (and_term t ts) (and_term u us) (s ∷ ss) [] h k = absurd k
  same-sizes c (and_expression e es) (and_term t ts) (and_term u us) (s ∷ ss) (r ∷ rs) h k =
      let a = same-size c e t u s r h.0 k.0 in
      let b = same-sizes c es ts us ss rs h.1 k.1 in
      let x = length-append (preorder t) (preorders ts) in
      let y = length-append (preorder u) (preorders us) in
      omega (arith, a, b, x, y)

-- order of lists
less-left : (xs ys us vs : List ℕ) → length xs ≡ length ys → IsLess xs ys → IsLess (xs ++ us) (ys ++ vs)
less-left [] [] us vs n h = absurd h
less-left [] (y ∷ ys) us vs n h = absurd h
less-left (x ∷ xs) [] us vs n h = absurd h
less-left (x ∷ xs) (y ∷ ys) us vs n (inl h) = inl h
less-left (x ∷ xs) (y ∷ ys) us vs n (inr h) = inr (h.0, less-left xs ys us vs (omega (arith, n)) h.1)

less-right : (xs us vs : List ℕ) → IsLess us vs → IsLess (xs ++ us) (xs ++ vs)
less-right [] us vs h = h
less-right (x ∷ xs) us vs h = inr (refl, less-right xs us vs h)

-- each comes before all later ones
abbrev pub IsSortedBy : {A : Type 0} → (A → List ℕ) → List A → Type 0
IsSortedBy key [] = Unit {0}
IsSortedBy key (x ∷ xs) = Each (λ y. IsLess (key x) (key y)) xs × IsSortedBy key xs

sorted-join : {A : Type 0} (key : A → List ℕ) (xs ys : List A) → IsSortedBy key xs → IsSortedBy key ys
    → ((x y : A) → IsOneOf x xs → IsOneOf y ys → IsLess (key x) (key y)) → IsSortedBy key (xs ++ ys)
sorted-join key [] ys h k f = k
sorted-join key (x ∷ xs) ys h k f = (
  each_append (λ y. IsLess (key x) (key y)) xs ys h.0
      (each_from (λ y. IsLess (key x) (key y)) ys (λ y m. f x y (inl refl) m)),
  sorted-join key xs ys h.1 k (λ a b m n. f a b (inr m) n),
)

sorted-map : {A B : Type 0} (key : A → List ℕ) (other : B → List ℕ) (f : A → B) (xs : List A)
    → ((x y : A) → IsLess (key x) (key y) → IsLess (other (f x)) (other (f y))) → IsSortedBy key xs → IsSortedBy other (map f xs)
sorted-map key other f [] g h = tt
sorted-map {A = A} key other f (x ∷ xs) g h = (all xs h.0, sorted-map key other f xs g h.1)
  where
    all : (ys : List A) → Each (λ y. IsLess (key x) (key y)) ys → Each (λ z. IsLess (other (f x)) (other z)) (map f ys)
    all [] k = tt
    all (y ∷ ys) k = (g x y k.0, all ys k.1)

-- keys
abbrev pub key : Typed → List ℕ
key r = preorder r.term

abbrev pub list_key : List TermTree → List ℕ
list_key l = preorders (terms l)

key-last : (l : List TermTree) (t : TermTree) → list_key (l ++ (t ∷ [])) ≡ list_key l ++ preorder t
key-last [] t = append-nil (preorder t)
key-last (u ∷ l) t = ap (λ z. preorder u ++ z) (key-last l t) ∙ sym (append_assoc (preorder u) (list_key l) (preorder t))

those-each : (P : Typed → Type 0) (p : ℕ → Bool) (xs : List Typed) → Each P xs → Each P (those p xs)
those-each P p [] h = tt
those-each P p (x ∷ xs) h = step (p x.sort) (those-each P p xs h.1)
  where
    step : (b : Bool) → Each P (those p xs) → Each P (if b then x ∷ those p xs else those p xs)
    step true k = (h.0, k)
    step false k = k

pub those-sorted : (p : ℕ → Bool) (xs : List Typed) → IsSortedBy key xs → IsSortedBy key (those p xs)
those-sorted p [] h = tt
those-sorted p (x ∷ xs) h = step (p x.sort) (those-each (λ y. IsLess (key x) (key y)) p xs h.0) (those-sorted p xs h.1)
  where
    step : (b : Bool) → Each (λ y. IsLess (key x) (key y)) (those p xs) → IsSortedBy key (those p xs)
        → IsSortedBy key (if b then x ∷ those p xs else those p xs)
    step true a k = (a, k)
    step false a k = k

of_sort-each : (P : TermTree → Type 0) (s : ℕ) (xs : List Typed) → Each (λ r. P r.term) xs → Each P (of_sort s xs)
of_sort-each P s [] h = tt
of_sort-each P s (x ∷ xs) h = step (x.sort == s) (of_sort-each P s xs h.1)
  where
    step : (b : Bool) → Each P (of_sort s xs) → Each P (if b then x.term ∷ of_sort s xs else of_sort s xs)
    step true k = (h.0, k)
    step false k = k

of_sort-sorted : (s : ℕ) (xs : List Typed) → IsSortedBy key xs → IsSortedBy preorder (of_sort s xs)
of_sort-sorted s [] h = tt
of_sort-sorted s (x ∷ xs) h = step (x.sort == s) (of_sort-each (λ u. IsLess (preorder x.term) (preorder u)) s xs h.0)
    (of_sort-sorted s xs h.1)
  where
    step : (b : Bool) → Each (λ u. IsLess (preorder x.term) (preorder u)) (of_sort s xs) → IsSortedBy preorder (of_sort s xs)
        → IsSortedBy preorder (if b then x.term ∷ of_sort s xs else of_sort s xs)
    step true a k = (a, k)
    step false a k = k

-- lists of arguments
abbrev HaveSize : ℕ → List TermTree → Type 0
HaveSize m ts = Each (λ t. length (preorder t) ≡ m) ts

longer-size : (n m : ℕ) (l : List TermTree) (t : TermTree) → length (list_key l) ≡ n → length (preorder t) ≡ m
    → length (list_key (l ++ (t ∷ []))) ≡ n + m
longer-size n m l t a b = let e = ap length (key-last l t) in let x = length-append (list_key l) (preorder t) in omega (arith, a, b, e, x)

extended-size : (n m : ℕ) (ls : List (List TermTree)) (ts : List TermTree) → Each (λ l. length (list_key l) ≡ n) ls → HaveSize m ts
    → Each (λ l. length (list_key l) ≡ n + m) (extended ls ts)
extended-size n m [] ts h k = tt
extended-size n m (l ∷ ls) ts h k = each_append (λ l. length (list_key l) ≡ n + m) (map (λ t. l ++ (t ∷ [])) ts) (extended ls ts)
    (all ts k) (extended-size n m ls ts h.1 k)
  where
    all : (us : List TermTree) → HaveSize m us → Each (λ l. length (list_key l) ≡ n + m) (map (λ t. l ++ (t ∷ [])) us)
    all [] a = tt
    all (u ∷ us) a = (longer-size n m l u h.0 a.0, all us a.1)

less-longer : (n : ℕ) (l k : List TermTree) (t u : TermTree) → length (list_key l) ≡ n → length (list_key k) ≡ n
    → IsLess (list_key l) (list_key k) → IsLess (list_key (l ++ (t ∷ []))) (list_key (k ++ (u ∷ [])))
less-longer n l k t u a b h = subst (λ z. IsLess z (list_key (k ++ (u ∷ [])))) (sym (key-last l t))
    (subst (λ z. IsLess (list_key l ++ preorder t) z) (sym (key-last k u))
    (less-left (list_key l) (list_key k) (preorder t) (preorder u) (a ∙ sym b) h))

less-last : (l : List TermTree) (t u : TermTree) → IsLess (preorder t) (preorder u)
    → IsLess (list_key (l ++ (t ∷ []))) (list_key (l ++ (u ∷ [])))
less-last l t u h = subst (λ z. IsLess z (list_key (l ++ (u ∷ [])))) (sym (key-last l t))
    (subst (λ z. IsLess (list_key l ++ preorder t) z) (sym (key-last l u)) (less-right (list_key l) (preorder t) (preorder u) h))

extended-sorted : (n : ℕ) (ls : List (List TermTree)) (ts : List TermTree) → Each (λ l. length (list_key l) ≡ n) ls
    → IsSortedBy list_key ls → IsSortedBy preorder ts → IsSortedBy list_key (extended ls ts)
extended-sorted n [] ts h s k = tt
extended-sorted n (l ∷ ls) ts h s k =
    sorted-join list_key (map (λ t. l ++ (t ∷ [])) ts) (extended ls ts) (sorted-map preorder list_key (λ t. l ++ (t ∷ [])) ts
    (λ t u a. less-last l t u a) k) (extended-sorted n ls ts h.1 s.1 k)
    (λ x y m i. let a = from_map (λ t. l ++ (t ∷ [])) ts x m in subst (λ z. IsLess (list_key z) (list_key y)) (sym a.2)
    (each_one (λ z. IsLess (list_key (l ++ (a.0 ∷ []))) (list_key z)) (extended ls ts) y (after ls a.0 h.1 s.0) i))
  where
    row : (j : List TermTree) (t : TermTree) (us : List TermTree) → length (list_key j) ≡ n → IsLess (list_key l) (list_key j)
        → Each (λ z. IsLess (list_key (l ++ (t ∷ []))) (list_key z)) (map (λ u. j ++ (u ∷ [])) us)
    row j t [] a b = tt
    row j t (u ∷ us) a b = (less-longer n l j t u h.0 a b, row j t us a b)

    after : (js : List (List TermTree)) (t : TermTree) → Each (λ l. length (list_key l) ≡ n) js
        → Each (λ j. IsLess (list_key l) (list_key j)) js → Each (λ z. IsLess (list_key (l ++ (t ∷ []))) (list_key z)) (extended js ts)
    after [] t a b = tt
    after (j ∷ js) t a b = each_append (λ z. IsLess (list_key (l ++ (t ∷ []))) (list_key z)) (map (λ u. j ++ (u ∷ [])) ts)
        (extended js ts) (row j t ts a.0 b.0) (after js t a.1 b.1)

-- each part is in order, and its terms are of one size
abbrev pub ArePartsSorted : List (List Typed) → Type 0
ArePartsSorted [] = Unit {0}
ArePartsSorted (part ∷ parts) = (IsSortedBy key part × ((m : ℕ) × Each (λ r. length (preorder r.term) ≡ m) part)) × ArePartsSorted parts

lists-sorted : (n : ℕ) (ls : List (List TermTree)) (parts : List (List Typed)) (sorts : List ℕ)
    → Each (λ l. length (list_key l) ≡ n) ls → IsSortedBy list_key ls → ArePartsSorted parts
    → IsSortedBy list_key (argument_lists ls parts sorts)
lists-sorted n ls [] [] h s p = s
lists-sorted n ls [] (r ∷ sorts) h s p = tt
lists-sorted n ls (part ∷ parts) [] h s p = tt
lists-sorted n ls (part ∷ parts) (r ∷ sorts) h s p =
    lists-sorted (n + p.0.1.0) (extended ls (of_sort r part)) parts sorts (extended-size n p.0.1.0 ls (of_sort r part) h
    (of_sort-each (λ t. length (preorder t) ≡ p.0.1.0) r part p.0.1.1)) (extended-sorted n ls (of_sort r part) h s
    (of_sort-sorted r part p.0.0)) p.1

operation-sorted : (name : List ℕ) (parts : List (List Typed)) (f : ℕ) (d : Operation) → ArePartsSorted parts
    → IsSortedBy key (of_operation name parts f d)
operation-sorted name parts f d p = step (is_same_name d.name name)
  where
    step : (b : Bool) → IsSortedBy key (if b then map (application f d.result) (argument_lists ([] ∷ []) parts d.args) else [])
    step true = sorted-map list_key key (application f d.result) (argument_lists ([] ∷ []) parts d.args) (λ x y h. inr (refl, h))
        (lists-sorted 0 ([] ∷ []) parts d.args (refl, tt) (tt, tt) p)
    step false = tt

operations-sorted : (name : List ℕ) (parts : List (List Typed)) (k : ℕ) (ds : List Operation) → ArePartsSorted parts
    → IsSortedBy key (of_operations name parts k ds)
operations-sorted name parts k [] p = tt
operations-sorted name parts k (d ∷ ds) p =
    sorted-join key (of_operation name parts k d) (of_operations name parts (suc k) ds) (operation-sorted name parts k d p)
    (operations-sorted name parts (suc k) ds p)
    (λ x y m n. let a = operation-sound name parts k d x m in let b = operations-sound name parts (suc k) ds y n in
    later x y a.1.0 b.0 (slice_get ds b.0) a.1.1.0 b.1)
  where
    later : (x y : Typed) (ts : List TermTree) (i : ℕ) (o : Option Operation) → x.term ≡ apply k (terms ts)
        → OnSome o (Given name parts y.term y.sort (suc k + i)) → IsLess (key x) (key y)
    later x y ts i None e h = absurd h
    later x y ts i (Some b) e h = subst (λ z. IsLess (preorder z) (key y)) (sym e)
        (subst (λ z. IsLess (preorder (apply k (terms ts))) (preorder z)) (sym h.2.1.0) (inl (omega arith)))

name-sorted : (c : Context) (name : Token) → Found name.text None 0 c.variables → IsSortedBy key (readings c (named name))
name-sorted c name (missing n q) = subst (λ z. IsSortedBy key (name_readings z (of_operations name.text [] 0 c.operations))) (sym q)
    (operations-sorted name.text [] 0 c.operations tt)
name-sorted c name (found x sort v q) = subst (λ z. IsSortedBy key (name_readings z (of_operations name.text [] 0 c.operations)))
    (sym q) (tt, tt)

sized : (c : Context) (e : Expression) (xs : List Typed) → ((r : Typed) → IsOneOf r xs → IsOneOf r (readings c e)) → (m : ℕ)
    × Each (λ r. length (preorder r.term) ≡ m) xs
sized c e [] f = (0, tt)
sized c e (x ∷ xs) f = (
  length (preorder x.term),
  each_from (λ r. length (preorder r.term) ≡ length (preorder x.term)) (x ∷ xs)
      (λ r m. same-size c e r.term x.term r.sort x.sort (sound c e r (f r m)) (sound c e x (f x (inl refl)))),
)

mutual
  pub sorted : (c : Context) (e : Expression) → IsSortedBy key (readings c e)
  sorted c (named name) = name-sorted c name (find name.text None 0 c.variables)
  sorted c (applied position name es) = operations-sorted (spelling position name.text) (all_readings c es) 0 c.operations (all-sorted c es)
  sorted c (said e name) = those-sorted _ (readings c e) (sorted c e)
  sorted c nothing = tt

  all-sorted : (c : Context) (es : Expressions) → ArePartsSorted (all_readings c es)
  all-sorted c no_expressions = tt
  all-sorted c (and_expression e es) = ((sorted c e, sized c e (readings c e) (λ r m. m)), all-sorted c es)
