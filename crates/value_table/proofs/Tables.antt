-- Tables of terms.
use Rattle.std.proofs.Common.{ℕ, zero, suc, ◌≡◌, ◌<◌, ◌≤◌, ◌+◌, ◌⊎◌, ◌↔◌, List, [], ◌∷◌, ◌++◌, length, map, get_or, refl, sym, ap, subst}
use Rattle.std.proofs.Common.{◌∙◌, arith, inl, inr, Bool, true, false, ◌&&◌, nat_eq, Some, if◌then◌else◌, IsTrue}
use Rattle.std.proofs.lemmas.Bool.{cases_lt, and_parts, eq-eqb, eqb-true}
use Rattle.std.proofs.lemmas.List.{length-append, length-map, map-append}
use Rattle.std.proofs.lemmas.Option.{same_Some, slice_get_within, slice_get-map}
use Rattle.std.specs.Cmp.Lexicographic.{pointwise, same_text}
use Rattle.std.specs.List.{slice_get, list_any, AllByRecursion, IsDistinct}
use Rattle.std.specs.Prelude.{option_map}
use Rattle.spec_core.specs.Lists.{Each}
use Rattle.spec_core.specs.Sorts.{FitsGround}
use Rattle.spec_core.specs.Terms.{TermTree, TermTrees, apply, terms}
use Rattle.spec_core.specs.Theories.{Theory}
use Rattle.spec_core.proofs.Lists.{each_implied}
use Rattle.spec_core.proofs.Same.{terms_one}
use Rattle.value_table.specs.declared.table.Row.{Row}
use Rattle.value_table.specs.Tables.{Application, application_of, is_same, tree_in, row_tree, trees_after, tree_at, IsRow, AreMade}
use Rattle.value_table.specs.Tables.{IsTable, HasRow, IsLonger, AreFit}

-- the same rows are equal
rows_equal : (a b : Application) → a.op ≡ b.op → a.args ≡ b.args → a ≡ b
rows_equal a b e f = ap (λ (x : ℕ). record { op = x; args = a.args }) e ∙ ap (λ (xs : List ℕ). record { op = b.op; args = xs }) f

one_same : (a b : Application) → is_same a b ≡ true → a ≡ b
one_same a b e =
    let h : (nat_eq a.op b.op ≡ true) × (pointwise nat_eq a.args b.args ≡ true) =
    and_parts (nat_eq a.op b.op) (pointwise nat_eq a.args b.args) e in
    rows_equal a b (eqb-true a.op b.op h.0) (same_text a.args b.args (sym h.1))

all_same : (xs : List ℕ) → pointwise nat_eq xs xs ≡ true
all_same [] = refl
all_same (x ∷ xs) = ap (λ z. z && pointwise nat_eq xs xs) (eq-eqb x x refl) ∙ all_same xs

same_itself : (a : Application) → is_same a a ≡ true
same_itself a = ap (λ z. z && pointwise nat_eq a.args a.args) (eq-eqb a.op a.op refl) ∙ all_same a.args

none_same : (x : Row) (keys : List Row) →
    AllByRecursion (λ y. is_same (application_of x) (application_of y) ≡ false) keys →
    AllByRecursion (λ y. is_same (application_of x) y ≡ false) (map application_of keys)
none_same x [] h = tt
none_same x (y ∷ ys) h = (h.0, none_same x ys h.1)

pub distinct_rows : (keys : List Row) →
    IsDistinct (λ a b. is_same (application_of a) (application_of b)) keys → IsDistinct is_same (map application_of keys)
unfolding IsDistinct
distinct_rows [] h = tt
distinct_rows (x ∷ xs) h = (none_same x xs h.0, distinct_rows xs h.1)

-- the row that a key stands for
pub stored_row : (keys : List Row) (n : ℕ) (k x : Row) → slice_get keys n ≡ Some k →
    is_same (application_of x) (application_of k) ≡ true → slice_get (map application_of keys) n ≡ Some (application_of x)
stored_row keys n k x at same =
    slice_get-map application_of keys n ∙ ap (option_map application_of) at
    ∙ ap Some (sym (one_same (application_of x) (application_of k) same))

-- the rows after an insertion
pub grown_rows : (keys new : List Row) (row : Row) →
    new ≡ (if list_any (λ k. is_same (application_of row) (application_of k)) keys then keys else keys ++ row ∷ []) →
    (map application_of new ≡ map application_of keys) ⊎ (map application_of new ≡ map application_of keys ++ application_of row ∷ [])
grown_rows keys new row e = by (list_any (λ k. is_same (application_of row) (application_of k)) keys) e
  where
    by : (b : Bool) → new ≡ (if b then keys else keys ++ row ∷ []) →
        (map application_of new ≡ map application_of keys) ⊎
        (map application_of new ≡ map application_of keys ++ application_of row ∷ [])
    by true h = inl (ap (map application_of) h)
    by false h = inr (ap (map application_of) h ∙ map-append application_of keys (row ∷ []))

made_push : (before : ℕ) (rs : List Application) (r : Application) → AreMade before rs → Each (λ i. i < before + length rs) r.args →
    AreMade before (rs ++ r ∷ [])
made_push before [] r h m = (each_implied _ _ r.args (λ i l. omega (arith, l)) m, tt)
made_push before (q ∷ rs) r h m = (h.0, made_push (suc before) rs r h.1 (each_implied _ _ r.args (λ i l. omega (arith, l)) m))

pub made_grown : (old new : List Application) (r : Application) → AreMade 0 old → Each (IsRow old) r.args →
    (new ≡ old) ⊎ (new ≡ old ++ r ∷ []) → AreMade 0 new
made_grown old new r m a (inl e) = subst (AreMade 0) (sym e) m
made_grown old new r m a (inr e) =
    subst (AreMade 0) (sym e) (made_push 0 old r m (each_implied _ _ r.args (λ i l. omega (arith, l)) a))

in_front : (ts us : List TermTree) (i : ℕ) → i < length ts → tree_in (ts ++ us) i ≡ tree_in ts i
in_front [] us i h = absurd (omega arith)
in_front (t ∷ ts) us zero h = refl
in_front (t ∷ ts) us (suc i) h = in_front ts us i (omega arith)

at_end : (ts : List TermTree) (t : TermTree) → tree_in (ts ++ t ∷ []) (length ts) ≡ t
at_end [] t = refl
at_end (u ∷ ts) t = at_end ts t

trees-length : (before : List TermTree) (rs : List Application) → length (trees_after before rs) ≡ length before + length rs
trees-length before [] = omega arith
trees-length before (r ∷ rs) =
    let e = trees-length (before ++ row_tree before r ∷ []) rs in
    let l = length-append before (row_tree before r ∷ []) in
    omega (arith, e, l)

-- earlier terms stay
stay : (before : List TermTree) (rs : List Application) (i : ℕ) → i < length before → tree_in (trees_after before rs) i ≡ tree_in before i
stay before [] i h = refl
stay before (r ∷ rs) i h =
    let l = length-append before (row_tree before r ∷ []) in
    stay (before ++ row_tree before r ∷ []) rs i (omega (arith, l)) ∙ in_front before (row_tree before r ∷ []) i h

trees-push : (before : List TermTree) (rs : List Application) (r : Application) →
    trees_after before (rs ++ r ∷ []) ≡ trees_after before rs ++ row_tree (trees_after before rs) r ∷ []
trees-push before [] r = refl
trees-push before (q ∷ rs) r = trees-push (before ++ row_tree before q ∷ []) rs r

pub same_map : (f g : ℕ → TermTree) (is : List ℕ) (n : ℕ) → Each (λ i. i < n) is → ((i : ℕ) → i < n → f i ≡ g i) → map f is ≡ map g is
same_map f g [] n h k = refl
same_map f g (i ∷ is) n h k = let a = k i h.0 in let b = same_map f g is n h.1 k in cc

-- what stands at a row
pub record IsSeen (ts : List TermTree) (i : ℕ) (r : Application) : Type 0 where
  pub tree : tree_in ts i ≡ apply r.op (terms (map (tree_in ts) r.args))
  pub args : Each (λ j. j < i) r.args

module _ (before : List TermTree) (q : Application) (rs : List Application) where
  itself_seen : tree_in (trees_after before (q ∷ rs)) (length before) ≡ row_tree before q
  itself_seen =
      let l = length-append before (row_tree before q ∷ []) in
      stay (before ++ row_tree before q ∷ []) rs (length before) (omega (arith, l)) ∙ at_end before (row_tree before q)

  first_seen : Each (λ i. i < length before) q.args → IsSeen (trees_after before (q ∷ rs)) (length before) q
  first_seen h = record {
    tree = itself_seen ∙ ap (λ us. apply q.op (terms us))
        (same_map (tree_in before) (tree_in (trees_after before (q ∷ rs))) q.args (length before) h
        (λ j l. sym (stay before (q ∷ rs) j l)));
    args = h;
  }

seen : (before : List TermTree) (rs : List Application) (i : ℕ) (r : Application) → AreMade (length before) rs → slice_get rs i ≡ Some r →
    IsSeen (trees_after before rs) (length before + i) r
seen before [] i r m h = absurd (cc)
seen before (q ∷ rs) zero r m h =
    let e : length before ≡ length before + 0 = omega arith in
    let k : q ≡ r = same_Some _ _ h in
    subst (IsSeen (trees_after before (q ∷ rs)) (length before + 0)) k
    (subst (λ n. IsSeen (trees_after before (q ∷ rs)) n q) e (first_seen before q rs m.0))
seen before (q ∷ rs) (suc i) r m h =
    let l = length-append before (row_tree before q ∷ []) in
    let s : suc (length before) ≡ length (before ++ row_tree before q ∷ []) = omega (arith, l) in
    let e : length (before ++ row_tree before q ∷ []) + i ≡ length before + suc i = omega (arith, l) in
    subst (λ n. IsSeen (trees_after before (q ∷ rs)) n r) e
    (seen (before ++ row_tree before q ∷ []) rs i r (subst (λ n. AreMade n rs) s m.1) h)

pub at_row : (rows : List Application) (i : ℕ) (r : Application) → AreMade 0 rows → slice_get rows i ≡ Some r →
    IsSeen (trees_after [] rows) i r
at_row rows i r m h =
    let z : 0 + i ≡ i = omega arith in
    subst (λ n. IsSeen (trees_after [] rows) n r) z (seen [] rows i r m h)

pub args_within : (rows : List Application) (i : ℕ) (r : Application) → slice_get rows i ≡ Some r → Each (λ j. j < i) r.args →
    Each (IsRow rows) r.args
args_within rows i r h a = let w = slice_get_within rows i r h in each_implied _ _ r.args (λ j l. omega (arith, l, w)) a

-- the row at a number
pub row_there : (rows : List Application) (i : ℕ) → i < length rows → (r : Application) × (slice_get rows i ≡ Some r)
row_there [] i h = absurd (omega arith)
row_there (r ∷ rows) zero h = (r, refl)
row_there (r ∷ rows) (suc i) h = row_there rows i (omega arith)

-- no two rows are the same
apart : (x : Application) (xs : List Application) (j : ℕ) (r : Application) → AllByRecursion (λ y. is_same x y ≡ false) xs → x ≡ r →
    slice_get xs j ≡ Some r → ⊥
apart x [] j r d e b = let n : ⊥ = cc in n
apart x (y ∷ ys) zero r d e b =
    let k : y ≡ x = same_Some _ _ b ∙ sym e in
    let t : is_same x y ≡ true = ap (is_same x) k ∙ same_itself x in
    let n : true ≡ false = sym t ∙ d.0 in
    let z : ⊥ = cc in z
apart x (y ∷ ys) (suc j) r d e b = apart x ys j r d.1 e b

one_place : (rows : List Application) (i j : ℕ) (r : Application) → IsDistinct is_same rows → slice_get rows i ≡ Some r →
    slice_get rows j ≡ Some r → i ≡ j
unfolding IsDistinct
one_place [] i j r d a b = absurd (cc)
one_place (x ∷ xs) zero zero r d a b = refl
one_place (x ∷ xs) zero (suc j) r d a b = absurd (apart x xs j r d.0 (same_Some _ _ a) b)
one_place (x ∷ xs) (suc i) zero r d a b = absurd (apart x xs i r d.0 (same_Some _ _ b) a)
one_place (x ∷ xs) (suc i) (suc j) r d a b = ap suc (one_place xs i j r d.1 a b)

one_list : (rows : List Application) (n : ℕ) →
    ((i j : ℕ) → i < n → IsRow rows i → IsRow rows j → tree_at rows i ≡ tree_at rows j → i ≡ j) →
    (is js : List ℕ) → Each (λ i. i < n) is → Each (IsRow rows) is → Each (IsRow rows) js →
    map (tree_at rows) is ≡ map (tree_at rows) js → is ≡ js
one_list rows n one [] [] small a b e = refl
one_list rows n one [] (j ∷ js) small a b e = absurd (cc)
one_list rows n one (i ∷ is) [] small a b e = absurd (cc)
one_list rows n one (i ∷ is) (j ∷ js) small a b e =
    let h : tree_at rows i ≡ tree_at rows j = cc in
    let t : map (tree_at rows) is ≡ map (tree_at rows) js = cc in
    let x : i ≡ j = one i j small.0 a.0 b.0 h in
    let y : is ≡ js = one_list rows n one is js small.1 a.1 b.1 t in
    cc

apply_op : (f g : ℕ) (ts us : TermTrees) → apply f ts ≡ apply g us → f ≡ g
apply_op f g ts us e = cc

apply_args : (f g : ℕ) (ts us : TermTrees) → apply f ts ≡ apply g us → ts ≡ us
apply_args f g ts us e = cc

-- no two rows stand for one term
pub one_row : (rows : List Application) → IsTable rows → (n i j : ℕ) → i < n → IsRow rows i → IsRow rows j →
    tree_at rows i ≡ tree_at rows j → i ≡ j
one_row rows table zero i j small a b e = absurd (omega (arith, small))
one_row rows table (suc n) i j small a b e =
    let r = row_there rows i a in
    let q = row_there rows j b in
    let x = at_row rows i r.0 table.made r.1 in
    let y = at_row rows j q.0 table.made q.1 in
    let k : apply r.0.op (terms (map (tree_at rows) r.0.args)) ≡ apply q.0.op (terms (map (tree_at rows) q.0.args)) =
    sym x.tree ∙ e ∙ y.tree in
    let op : r.0.op ≡ q.0.op = apply_op _ _ _ _ k in
    let args : r.0.args ≡ q.0.args =
    one_list rows n (one_row rows table n) r.0.args q.0.args (each_implied _ _ r.0.args (λ m l. omega (arith, l, small)) x.args)
    (args_within rows i r.0 r.1 x.args) (args_within rows j q.0 q.1 y.args) (terms_one _ _ (apply_args _ _ _ _ k)) in
    one_place rows i j q.0 table.distinct (r.1 ∙ ap Some (rows_equal r.0 q.0 op args)) q.1

pub same_decides : (rows : List Application) (i j : ℕ) → IsTable rows → IsRow rows i → IsRow rows j →
    IsTrue (nat_eq i j) ↔ (tree_at rows i ≡ tree_at rows j)
same_decides rows i j table a b = (
  λ h. ap (tree_at rows) (eqb-true i j h),
  λ e. eq-eqb i j (one_row rows table (suc i) i j (omega arith) a b e),
)

-- one more row
pushed_longer : (rows : List Application) (r : Application) → IsLonger rows (rows ++ r ∷ [])
pushed_longer rows r = record {
  at_least = let l = length-append rows (r ∷ []) in omega (arith, l);
  same = λ i h. let l = trees-length [] rows in
      ap (λ ts. tree_in ts i) (trees-push [] rows r) ∙ in_front (trees_after [] rows) (row_tree (trees_after [] rows) r ∷ []) i
      (omega (arith, l, h));
}

pub longer_itself : (rows : List Application) → IsLonger rows rows
longer_itself rows = record { at_least = omega arith; same = λ i h. refl }

pub longer_on : (a b c : List Application) → IsLonger a b → IsLonger b c → IsLonger a c
longer_on a b c h k = record {
  at_least = omega (arith, h.at_least, k.at_least);
  same = λ i l. k.same i (omega (arith, h.at_least, l)) ∙ h.same i l;
}

pub same_trees : (old new : List Application) → IsLonger old new → (is : List ℕ) → Each (IsRow old) is →
    map (tree_at new) is ≡ map (tree_at old) is
same_trees old new h is e = same_map (tree_at new) (tree_at old) is (length old) e h.same

pub still_rows : (old new : List Application) → IsLonger old new → (is : List ℕ) → Each (IsRow old) is → Each (IsRow new) is
still_rows old new h is e = let l = h.at_least in each_implied _ _ is (λ i k. omega (arith, l, k)) e

pub longer_by : (old new : List Application) (r : Application) (n : ℕ) → HasRow old r new n → IsLonger old new
longer_by old new r n h = by h.grown
  where
    by : (new ≡ old) ⊎ (new ≡ old ++ r ∷ []) → IsLonger old new
    by (inl e) = subst (IsLonger old) (sym e) (longer_itself old)
    by (inr e) = subst (IsLonger old) (sym e) (pushed_longer old r)

pub tree_of_row : (old new : List Application) (r : Application) (n : ℕ) → HasRow old r new n → Each (IsRow old) r.args →
    tree_at new n ≡ apply r.op (terms (map (tree_at old) r.args))
tree_of_row old new r n h a =
    (at_row new n r h.table.made h.here).tree ∙ ap (λ us. apply r.op (terms us)) (same_trees old new (longer_by old new r n h) r.args a)

pub fit_by : (old new : List Application) (r : Application) (n : ℕ) → HasRow old r new n → (theory : Theory) →
    FitsGround theory (apply r.op (terms (map (tree_at old) r.args))) → AreFit theory old → AreFit theory new
fit_by old new r n h theory f a = by h.grown
  where
    at : (new ≡ old ++ r ∷ []) → (i : ℕ) → (i < length old) ⊎ (length old ≤ i) → i < length (old ++ r ∷ []) →
        FitsGround theory (tree_at (old ++ r ∷ []) i)
    at e i (inl l) w = subst (FitsGround theory) (sym ((pushed_longer old r).same i l)) (a i l)
    at e i (inr l) w =
        let k = length-append old (r ∷ []) in
        let t = trees-length [] old in
        let p : i ≡ length (trees_after [] old) = omega (arith, k, l, w, t) in
        subst (FitsGround theory)
        (sym (ap (tree_at (old ++ r ∷ [])) p ∙ ap (λ ts. tree_in ts (length (trees_after [] old))) (trees-push [] old r)
        ∙ at_end (trees_after [] old) (row_tree (trees_after [] old) r)))
        f

    by : (new ≡ old) ⊎ (new ≡ old ++ r ∷ []) → AreFit theory new
    by (inl e) = subst (AreFit theory) (sym e) a
    by (inr e) = subst (AreFit theory) (sym e) (λ i w. at e i (cases_lt i (length old)) w)

-- what is read at a place
pub read_row : (rows : List Application) (keys : List Row) (i : ℕ) (r : Row) → map application_of keys ≡ rows → i < length rows →
    r ≡ get_or keys i r → slice_get rows i ≡ Some (application_of r)
read_row rows keys i r view h e =
    let l = length-map keys application_of in
    let w : i < length keys = omega (arith, l, ap length view, h) in
    subst (λ rs. slice_get rs i ≡ Some (application_of r)) view (go keys i r w e)
  where
    go : (keys : List Row) (i : ℕ) (r : Row) → i < length keys → r ≡ get_or keys i r →
        slice_get (map application_of keys) i ≡ Some (application_of r)
    go [] i r w e = absurd (omega arith)
    go (k ∷ keys) zero r w e = ap (λ x. Some (application_of x)) (sym e)
    go (k ∷ keys) (suc i) r w e = go keys i r (omega arith) e
