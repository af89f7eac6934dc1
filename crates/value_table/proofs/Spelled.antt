-- Ground terms as lists of operations: each list spells one list of ground terms at most.
use Rattle.std.proofs.Common.{ℕ, suc, ◌≡◌, ◌<◌, ◌≤◌, ◌+◌, ◌-◌, List, [], ◌∷◌, ◌++◌, length, map, reverse, take, drop, get_or, refl, sym}
use Rattle.std.proofs.Common.{ap, subst, ◌∙◌, ◌↔◌, IsTrue, nat_eq, arith, Option, Some, None, append_assoc}
use Rattle.std.proofs.lemmas.Bool.{eq-eqb, eqb-true}
use Rattle.std.proofs.lemmas.List.{append-nil, length-append, map-append, length-map, length-reverse, reverse-append, reverse-reverse}
use Rattle.std.proofs.lemmas.List.{take-append-drop, take-map, drop-map}
use Rattle.std.proofs.lemmas.Option.{same_Some, get_or_from_slice_get}
use Rattle.std.specs.List.{slice_get}
use Rattle.spec_core.specs.Lists.{Each}
use Rattle.spec_core.specs.Sorts.{OnSome, HasSort, HaveSorts, FitsGround, no_variables}
use Rattle.spec_core.specs.Terms.{TermTree, TermTrees, variable, apply, no_terms, and_term, preorder, preorders, terms}
use Rattle.spec_core.specs.Theories.{Operation, Theory}
use Rattle.spec_core.proofs.Lists.{each_append, each_right, map_drop}
use Rattle.spec_core.specs.declared.items.Op.{Op}
use Rattle.spec_core.specs.Numbers.{op_number}
use Rattle.value_table.specs.Spelled.{spelled_from_last, SpellsOne, SpellsSome}
use Rattle.value_table.specs.Tables.{Application, tree_at, AreFit, IsLonger, IsRow}
use Rattle.value_table.proofs.Tables.{same_trees}

-- the terms of a list of arguments
abbrev pub list_of : TermTrees → List TermTree
list_of no_terms = []
list_of (and_term t ts) = t ∷ list_of ts

pub listed : (ts : TermTrees) → terms (list_of ts) ≡ ts
listed no_terms = refl
listed (and_term t ts) = ap (and_term t) (listed ts)

-- the operations of some terms
abbrev pub spelling : List TermTree → List ℕ
spelling ts = preorders (terms ts)

pub spelling_append : (ts us : List TermTree) → spelling (ts ++ us) ≡ spelling ts ++ spelling us
spelling_append [] us = refl
spelling_append (t ∷ ts) us =
    ap (λ fs. preorder t ++ fs) (spelling_append ts us) ∙ sym (append_assoc (preorder t) (spelling ts) (spelling us))

pub spelling_args : (us : TermTrees) (ts : List TermTree) → preorders us ++ spelling ts ≡ spelling (list_of us ++ ts)
spelling_args us ts = ap (λ vs. preorders vs ++ spelling ts) (sym (listed us)) ∙ sym (spelling_append (list_of us) ts)

pub spelling_one : (t : TermTree) → preorder t ≡ spelling (t ∷ [])
spelling_one t = sym (append-nil (preorder t))

-- what is declared of an operation
pub some_declared : {A : Type 0} {P : A → Type 0} (o : Option A) → OnSome o P → (d : A) × (o ≡ Some d) × P d
some_declared None p = absurd p
some_declared (Some d) p = (d, refl, p)

pub on_declared : {A : Type 0} (P : A → Type 0) (o : Option A) (d : A) → o ≡ Some d → OnSome o P → P d
on_declared P o d e p = subst (λ x. OnSome x P) e p

-- the parts of a list, where the first are as long
pub halves : {A : Type 0} (xs ys zs ws : List A) → length xs ≡ length zs → xs ++ ys ≡ zs ++ ws → (xs ≡ zs) × (ys ≡ ws)
halves [] ys [] ws l e = (refl, e)
halves [] ys (z ∷ zs) ws l e = absurd (omega (arith, l))
halves (x ∷ xs) ys [] ws l e = absurd (omega (arith, l))
halves (x ∷ xs) ys (z ∷ zs) ws l e =
    let h : x ≡ z = cc in
    let t : xs ++ ys ≡ zs ++ ws = cc in
    let r = halves xs ys zs ws (omega (arith, l)) t in
    (let k = r.0 in cc, r.1)

module _ (theory : Theory) where
  pub list_fits : (ts : TermTrees) (sorts : List ℕ) → HaveSorts theory no_variables ts sorts → Each (FitsGround theory) (list_of ts)
  list_fits no_terms sorts h = tt
  list_fits (and_term t ts) [] h = absurd h
  list_fits (and_term t ts) (s ∷ sorts) h = ((s, h.0), list_fits ts sorts h.1)

  pub list_length : (ts : TermTrees) (sorts : List ℕ) → HaveSorts theory no_variables ts sorts → length (list_of ts) ≡ length sorts
  list_length no_terms [] h = refl
  list_length no_terms (s ∷ sorts) h = absurd h
  list_length (and_term t ts) [] h = absurd h
  list_length (and_term t ts) (s ∷ sorts) h = ap suc (list_length ts sorts h.1)

  -- the first of some terms that fit
  pub record Begins (f : ℕ) (fs : List ℕ) (ts : List TermTree) : Type 0 where
    pub args : TermTrees
    pub rest : List TermTree
    pub whole : ts ≡ apply f args ∷ rest
    pub declared : Operation
    pub found : slice_get theory.operations f ≡ Some declared
    pub sorts : HaveSorts theory no_variables args declared.args
    pub fit : Each (FitsGround theory) (list_of args ++ rest)
    pub spelled : fs ≡ spelling (list_of args ++ rest)

  pub begins : (f : ℕ) (fs : List ℕ) (ts : List TermTree) → Each (FitsGround theory) ts → f ∷ fs ≡ spelling ts → Begins f fs ts
  begins f fs [] h e = absurd (cc)
  begins f fs (variable x ∷ ts) h e = absurd (let n : None ≡ Some h.0.0 = h.0.1 in cc)
  begins f fs (apply g us ∷ ts) h e =
      let d = some_declared (slice_get theory.operations g) h.0.1 in
      let same : f ≡ g = cc in
      let rest : fs ≡ preorders us ++ spelling ts = cc in
      record {
        args = us;
        rest = ts;
        whole = ap (λ k. apply k us ∷ ts) (sym same);
        declared = d.0;
        found = ap (slice_get theory.operations) same ∙ d.1;
        sorts = d.2.1;
        fit = each_append (FitsGround theory) (list_of us) ts (list_fits us d.0.args d.2.1) h.1;
        spelled = rest ∙ spelling_args us ts;
      }

  not_empty : (t : TermTree) (fs : List ℕ) → FitsGround theory t → [] ≡ preorder t ++ fs → ⊥
  not_empty (variable x) fs h e = let n : None ≡ Some h.0 = h.1 in let z : ⊥ = cc in z
  not_empty (apply g us) fs h e = let z : ⊥ = cc in z

  one_terms : (us vs : TermTrees) → list_of us ≡ list_of vs → us ≡ vs
  one_terms us vs e = sym (listed us) ∙ ap terms e ∙ listed vs

  pub one_spelling : (fs : List ℕ) (ts us : List TermTree) → Each (FitsGround theory) ts → Each (FitsGround theory) us →
      fs ≡ spelling ts → fs ≡ spelling us → ts ≡ us
  one_spelling [] [] [] a b p q = refl
  one_spelling [] [] (u ∷ us) a b p q = absurd (not_empty u (spelling us) b.0 q)
  one_spelling [] (t ∷ ts) us a b p q = absurd (not_empty t (spelling ts) a.0 p)
  one_spelling (f ∷ fs) ts us a b p q =
      let x = begins f fs ts a p in
      let y = begins f fs us b q in
      let all : list_of x.args ++ x.rest ≡ list_of y.args ++ y.rest =
      one_spelling fs (list_of x.args ++ x.rest) (list_of y.args ++ y.rest) x.fit y.fit x.spelled y.spelled in
      let d : x.declared ≡ y.declared = same_Some _ _ (sym x.found ∙ y.found) in
      let l : length (list_of x.args) ≡ length (list_of y.args) =
      list_length x.args x.declared.args x.sorts ∙ ap (λ (o : Operation). length o.args) d
      ∙ sym (list_length y.args y.declared.args y.sorts) in
      let r = halves (list_of x.args) x.rest (list_of y.args) y.rest l all in
      x.whole ∙ ap (λ args. apply f args ∷ x.rest) (one_terms x.args y.args r.0) ∙ ap (λ rest. apply f y.args ∷ rest) r.1 ∙ sym y.whole

  -- what follows in a spelling is one
  pub rest_spelled : (fs gs : List ℕ) → SpellsSome theory (fs ++ gs) → SpellsSome theory gs
  rest_spelled [] gs h = h
  rest_spelled (f ∷ fs) gs h =
      let x = begins f (fs ++ gs) h.0 h.1 h.2 in
      rest_spelled fs gs (list_of x.args ++ x.rest, x.fit, x.spelled)

  pub one_of_some : (fs : List ℕ) → SpellsOne theory fs → SpellsSome theory fs
  one_of_some fs h = (h.0 ∷ [], (h.1, tt), h.2 ∙ spelling_one h.0)

  front : (xs ys : List TermTree) (n : ℕ) → n ≡ length xs → take n (xs ++ ys) ≡ xs
  front [] ys n e = subst (λ k. take {A = TermTree} k ys ≡ []) (sym e) refl
  front (x ∷ xs) ys n e = subst (λ k. take k (x ∷ (xs ++ ys)) ≡ x ∷ xs) (sym e) (ap (λ zs. x ∷ zs) (front xs ys (length xs) refl))

  -- the operation behind which these terms follow is over the first of them
  pub record TakesFirst (f : ℕ) (ts : List TermTree) : Type 0 where
    pub declared : Operation
    pub found : slice_get theory.operations f ≡ Some declared
    pub enough : length declared.args ≤ length ts
    pub sorts : HaveSorts theory no_variables (terms (take (length declared.args) ts)) declared.args

  pub takes_first : (f : ℕ) (ts : List TermTree) → Each (FitsGround theory) ts → SpellsSome theory (f ∷ spelling ts) → TakesFirst f ts
  takes_first f ts a h =
      let x = begins f (spelling ts) h.0 h.1 h.2 in
      let all : ts ≡ list_of x.args ++ x.rest = one_spelling (spelling ts) ts (list_of x.args ++ x.rest) a x.fit refl x.spelled in
      let l = list_length x.args x.declared.args x.sorts in
      let k = length-append (list_of x.args) x.rest in
      record {
        declared = x.declared;
        found = x.found;
        enough = omega (arith, l, k, ap length all);
        sorts = subst (λ us. HaveSorts theory no_variables us x.declared.args)
            (sym (ap (λ us. terms (take (length x.declared.args) us)) all
            ∙ ap terms (front (list_of x.args) x.rest (length x.declared.args) (sym l))
            ∙ listed x.args))
            x.sorts;
      }

-- what holds of elements holds in reverse, and of the last ones
pub each_reverse : {A : Type 0} (P : A → Type 0) (xs : List A) → Each P xs → Each P (reverse xs)
each_reverse P [] h = tt
each_reverse P (x ∷ xs) h =
    subst (Each P) (sym (reverse-append (x ∷ []) xs)) (each_append P (reverse xs) (x ∷ []) (each_reverse P xs h.1) (h.0, tt))

pub each_drop : {A : Type 0} (P : A → Type 0) (n : ℕ) (xs : List A) → Each P xs → Each P (drop n xs)
each_drop P n xs h = each_right P (take n xs) (drop n xs) (subst (Each P) (sym (take-append-drop n xs)) h)

pub each_in_reverse : {A : Type 0} (P : A → Type 0) (xs : List A) → Each P (reverse xs) → Each P xs
each_in_reverse P xs h = subst (Each P) (reverse-reverse xs) (each_reverse P (reverse xs) h)

pub trees_fit : (theory : Theory) (rows : List Application) → AreFit theory rows → (is : List ℕ) → Each (IsRow rows) is →
    Each (FitsGround theory) (map (tree_at rows) is)
trees_fit theory rows fit [] h = tt
trees_fit theory rows fit (i ∷ is) h = (fit i h.0, trees_fit theory rows fit is h.1)

-- the sort of a term is that of its operation
pub sort_decided : (theory : Theory) (t : TermTree) (f : ℕ) (ts : TermTrees) (d : Operation) (sort : ℕ) → FitsGround theory t →
    t ≡ apply f ts → slice_get theory.operations f ≡ Some d → IsTrue (nat_eq d.result sort) ↔ HasSort theory no_variables t sort
sort_decided theory t f ts d sort fit e found =
    let h : HasSort theory no_variables (apply f ts) fit.0 = subst (λ u. HasSort theory no_variables u fit.0) e fit.1 in
    let p = on_declared (λ (c : Operation). (c.result ≡ fit.0) × HaveSorts theory no_variables ts c.args)
    (slice_get theory.operations f) d found h in (
      λ q. subst (λ u. HasSort theory no_variables u sort) (sym e)
          (subst (λ o. OnSome o (λ (c : Operation). (c.result ≡ sort) × HaveSorts theory no_variables ts c.args)) (sym found)
          (eqb-true d.result sort q, p.1)),
      λ k. eq-eqb d.result sort
          (on_declared (λ (c : Operation). (c.result ≡ sort) × HaveSorts theory no_variables ts c.args) (slice_get theory.operations f) d
          found (subst (λ u. HasSort theory no_variables u sort) e k)).0,
    )

pub call_fits : (theory : Theory) (f : ℕ) (ts : TermTrees) (d : Operation) → slice_get theory.operations f ≡ Some d →
    HaveSorts theory no_variables ts d.args → FitsGround theory (apply f ts)
call_fits theory f ts d found h = (
  d.result,
  subst (λ o. OnSome o (λ (c : Operation). (c.result ≡ d.result) × HaveSorts theory no_variables ts c.args)) (sym found)
      (refl, h),
)

-- the operations of rows, the last one first
module _ (rows : List Application) where
  pub from_last_push : (is : List ℕ) (i : ℕ) →
      spelled_from_last rows (is ++ i ∷ []) ≡ preorder (tree_at rows i) ++ spelled_from_last rows is
  from_last_push is i = ap (λ js. preorders (terms (map (tree_at rows) js))) (reverse-append is (i ∷ []))

  pub from_last_args : (is js : List ℕ) →
      spelled_from_last rows (is ++ reverse js) ≡ preorders (terms (map (tree_at rows) js)) ++ spelled_from_last rows is
  from_last_args is js =
      ap (λ ks. preorders (terms (map (tree_at rows) ks)))
      (reverse-append is (reverse js) ∙ ap (λ ks. ks ++ reverse is) (reverse-reverse js))
      ∙ ap (λ ts. preorders (terms ts)) (map-append (tree_at rows) js (reverse is))
      ∙ spelling_append (map (tree_at rows) js) (map (tree_at rows) (reverse is))

  pub spelled_on : (ops ops' : List Op) (op : Op) (todo less new args : List ℕ) (next : ℕ) (whole : List ℕ) → todo ≡ less ++ next ∷ [] →
      tree_at rows next ≡ apply op.0 (terms (map (tree_at rows) args)) → ops' ≡ ops ++ op ∷ [] → new ≡ less ++ reverse args →
      whole ≡ map op_number ops ++ spelled_from_last rows todo → whole ≡ map op_number ops' ++ spelled_from_last rows new
  spelled_on ops ops' op todo less new args next whole e at f g h =
      let rest : List ℕ = preorders (terms (map (tree_at rows) args)) ++ spelled_from_last rows less in
      h
      ∙ ap (λ fs. map op_number ops ++ fs)
      (ap (spelled_from_last rows) e ∙ from_last_push less next ∙ ap (λ t. preorder t ++ spelled_from_last rows less) at)
      ∙ sym (append_assoc (map op_number ops) (op.0 ∷ []) rest)
      ∙ ap (λ fs. fs ++ rest) (sym (map-append op_number ops (op ∷ [])))
      ∙ ap (λ os. map op_number os ++ rest) (sym f)
      ∙ ap (λ fs. map op_number ops' ++ fs) (sym (ap (spelled_from_last rows) g ∙ from_last_args less args))

pub op_spelled : (old new : List Application) (all args rest pushed : List ℕ) (k row op : ℕ) → IsLonger old new → Each (IsRow old) all →
    args ≡ take k all → reverse rest ≡ drop k all → pushed ≡ rest ++ row ∷ [] →
    tree_at new row ≡ apply op (terms (map (tree_at old) args)) →
    spelled_from_last new pushed ≡ op ∷ preorders (terms (map (tree_at old) all))
op_spelled old new all args rest pushed k row op longer there front back put at =
    ap (spelled_from_last new) put
    ∙ from_last_push new rest row
    ∙ ap (λ t. preorder t ++ spelled_from_last new rest) at
    ∙ ap (λ is. op ∷ (preorders (terms (map (tree_at old) args)) ++ preorders (terms (map (tree_at new) is)))) back
    ∙ ap (λ ts. op ∷ (preorders (terms (map (tree_at old) args)) ++ preorders (terms ts)))
    (same_trees old new longer (drop k all) (each_drop (IsRow old) k all there))
    ∙ ap (λ is. op ∷ (preorders (terms (map (tree_at old) is)) ++ preorders (terms (map (tree_at old) (drop k all))))) front
    ∙ ap (λ fs. op ∷ fs)
    (sym (spelling_append (map (tree_at old) (take k all)) (map (tree_at old) (drop k all)))
    ∙ ap (λ ts. preorders (terms ts))
    (sym (map-append (tree_at old) (take k all) (drop k all)) ∙ ap (map (tree_at old)) (take-append-drop k all)))

-- where an operation takes the first of some terms, these have its argument sorts
pub first_sorts : (theory : Theory) (rows : List Application) (f k : ℕ) (all args : List ℕ) (d : Operation) →
    k ≡ length d.args → args ≡ take k all → slice_get theory.operations f ≡ Some d → TakesFirst theory f (map (tree_at rows) all) →
    HaveSorts theory no_variables (terms (map (tree_at rows) args)) d.args
first_sorts theory rows f k all args d count front found x =
    let same : x.declared ≡ d = same_Some _ _ (sym x.found ∙ found) in
    let h : HaveSorts theory no_variables (terms (take (length d.args) (map (tree_at rows) all))) d.args =
    subst (λ (c : Operation). HaveSorts theory no_variables (terms (take (length c.args) (map (tree_at rows) all))) c.args) same x.sorts in
    subst (λ ts. HaveSorts theory no_variables (terms ts) d.args)
    (take-map (tree_at rows) (length d.args) all ∙ ap (λ n. map (tree_at rows) (take n all)) (sym count)
    ∙ ap (map (tree_at rows)) (sym front))
    h

pub enough_taken : (theory : Theory) (rows : List Application) (f : ℕ) (all : List ℕ) (d : Operation) →
    slice_get theory.operations f ≡ Some d → TakesFirst theory f (map (tree_at rows) all) → length d.args ≤ length all
enough_taken theory rows f all d found x =
    let same : x.declared ≡ d = same_Some _ _ (sym x.found ∙ found) in
    let l = length-map all (tree_at rows) in
    let n : length x.declared.args ≡ length d.args = ap (λ (c : Operation). length c.args) same in
    omega (arith, x.enough, l, n)

-- what follows an operation that is read from the end
pub rest_at : (ops : List Op) (value : List ℕ) (done : ℕ) (op : Op) → map op_number ops ≡ value → done < length ops →
    slice_get ops (length ops - 1 - done) ≡ Some op → drop (length ops - (done + 1)) value ≡ op.0 ∷ drop (length ops - done) value
rest_at ops value done op spelled within at =
    let k : length ops - 1 - done ≡ length ops - (done + 1) = omega arith in
    let w : length ops - (done + 1) < length ops = omega (arith, within) in
    let n : length ops - (done + 1) + 1 ≡ length ops - done = omega (arith, within) in
    subst (λ v. drop (length ops - (done + 1)) v ≡ op.0 ∷ drop (length ops - done) v) spelled
    (drop-map op_number (length ops - (done + 1)) ops
    ∙ map_drop op_number ops (length ops - (done + 1)) op w
    (sym (get_or_from_slice_get ops (length ops - 1 - done) op op at) ∙ ap (λ i. get_or ops i op) k)
    ∙ ap (λ i. op.0 ∷ map op_number (drop i ops)) n
    ∙ ap (λ fs. op.0 ∷ fs) (sym (drop-map op_number (length ops - done) ops)))

-- what is left to be spelled is a list of terms
pub left_spelled : (theory : Theory) (value : List ℕ) (k : ℕ) → SpellsOne theory value → SpellsSome theory (drop k value)
left_spelled theory value k one =
    rest_spelled theory (take k value) (drop k value)
    (subst (SpellsSome theory) (sym (take-append-drop k value)) (one_of_some theory value one))

-- the rows of what spells one term are one
pub one_row_read : (theory : Theory) (rows : List Application) (value is : List ℕ) (n : ℕ) → AreFit theory rows → Each (IsRow rows) is →
    spelled_from_last rows is ≡ drop n value → n ≡ 0 → SpellsOne theory value → length is ≡ 1
one_row_read theory rows value is n fit there spelled none one =
    let e : value ≡ spelling (map (tree_at rows) (reverse is)) = sym (spelled ∙ ap (λ k. drop k value) none) in
    let t = one_spelling theory value (map (tree_at rows) (reverse is)) (one.0 ∷ [])
    (trees_fit theory rows fit (reverse is) (each_reverse (IsRow rows) is there)) (one.1, tt) e (one.2 ∙ spelling_one one.0) in
    let l : length (map (tree_at rows) (reverse is)) ≡ 1 = ap length t in
    let a = length-map (reverse is) (tree_at rows) in
    let b = length-reverse is in
    omega (arith, l, a, b)
