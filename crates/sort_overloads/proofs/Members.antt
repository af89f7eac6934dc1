-- The list of all readings holds just the readings.
use Rattle.std.proofs.Common.{Option, Some, None, ℕ, zero, suc, ◌≡◌, inl, inr, ◌+◌, ◌==◌, List, [], ◌∷◌, ◌++◌, map}
use Rattle.std.proofs.Common.{refl, ap, sym, subst, ◌∙◌, arith, append_assoc, Bool, true, false, if◌then◌else◌}
use Rattle.std.proofs.lemmas.List.{append-nil}
use Rattle.std.specs.Bool.{Decides}
use Rattle.std.specs.Char.{to_ascii_lowercase}
use Rattle.std.specs.List.{slice_get}
use Rattle.std.proofs.lemmas.Bool.Decides.{Decides-eqb}
use Rattle.std.proofs.lemmas.Slice.Eq.{bytes_eq-Decides}
use Rattle.spec_core.specs.Lists.{IsOneOf}
use Rattle.spec_core.specs.Names.{IsSameName}
use Rattle.spec_core.specs.Sorts.{OnSome}
use Rattle.spec_core.specs.Terms.{TermTree, apply, terms}
use Rattle.spec_core.specs.Theories.{Operation}
use Rattle.spec_core.proofs.Members.{one_map, some_left, some_right, from_map, some_parts}
use Rattle.sort_overloads.specs.Listed.{Typed, those, of_sort, is_same_name, is_name_of, extended, argument_lists}
use Rattle.sort_overloads.specs.Listed.{application, of_operation, of_operations}

abbrev pub typed : TermTree → ℕ → Typed
typed t s = record { term = t; sort = s }

-- names
pub same-name : (a b : List ℕ) → Decides (is_same_name a b) (IsSameName a b)
same-name a b = bytes_eq-Decides (map to_ascii_lowercase a) (map to_ascii_lowercase b)

pub named-sort : (sorts : List (List ℕ)) (name : List ℕ) (o : Option (List ℕ)) → Decides (is_name_of name o)
    (OnSome o (λ other. IsSameName other name))
named-sort sorts name None = (λ e. absurd (cc), λ h. absurd h)
named-sort sorts name (Some other) = same-name other name

pub those-sound : (p : ℕ → Bool) (xs : List Typed) (r : Typed) → IsOneOf r (those p xs) → IsOneOf r xs × (p r.sort ≡ true)
those-sound p [] r h = absurd h
those-sound p (x ∷ xs) r h = step (λ m. those-sound p xs r m) (p x.sort) refl h
  where
    later : IsOneOf r xs × (p r.sort ≡ true) → IsOneOf r (x ∷ xs) × (p r.sort ≡ true)
    later i = (inr i.0, i.1)

    step : (IsOneOf r (those p xs) → IsOneOf r xs × (p r.sort ≡ true)) → (b : Bool) → p x.sort ≡ b
        → IsOneOf r (if b then x ∷ those p xs else those p xs) → IsOneOf r (x ∷ xs) × (p r.sort ≡ true)
    step rec true e (inl q) = (inl q, ap (λ z. p z.sort) q ∙ e)
    step rec true e (inr m) = later (rec m)
    step rec false e m = later (rec m)

pub those-complete : (p : ℕ → Bool) (xs : List Typed) (r : Typed) → IsOneOf r xs → p r.sort ≡ true → IsOneOf r (those p xs)
those-complete p [] r h e = absurd h
those-complete p (x ∷ xs) r (inl q) e = subst (λ b. IsOneOf r (if b then x ∷ those p xs else those p xs))
    (sym (ap (λ z. p z.sort) (sym q) ∙ e)) (inl q)
those-complete p (x ∷ xs) r (inr m) e = step (p x.sort) (those-complete p xs r m e)
  where
    step : (b : Bool) → IsOneOf r (those p xs) → IsOneOf r (if b then x ∷ those p xs else those p xs)
    step true i = inr i
    step false i = i

pub of_sort-sound : (s : ℕ) (xs : List Typed) (t : TermTree) → IsOneOf t (of_sort s xs) → IsOneOf (typed t s) xs
of_sort-sound s [] t h = absurd h
of_sort-sound s (x ∷ xs) t h = step (λ m. of_sort-sound s xs t m) (x.sort == s) (Decides-eqb x.sort s) h
  where
    step : (IsOneOf t (of_sort s xs) → IsOneOf (typed t s) xs) → (b : Bool) → Decides b (x.sort ≡ s)
        → IsOneOf t (if b then x.term ∷ of_sort s xs else of_sort s xs) → IsOneOf (typed t s) (x ∷ xs)
    step rec true d (inl q) = let e = d.0 refl in inl (ap (λ z. typed z s) q ∙ ap (λ z. typed x.term z) (sym e))
    step rec true d (inr m) = inr (rec m)
    step rec false d m = inr (rec m)

pub of_sort-complete : (s : ℕ) (xs : List Typed) (t : TermTree) → IsOneOf (typed t s) xs → IsOneOf t (of_sort s xs)
of_sort-complete s [] t h = absurd h
of_sort-complete s (x ∷ xs) t h = step (λ m. of_sort-complete s xs t m) (x.sort == s) (Decides-eqb x.sort s) h
  where
    step : (IsOneOf (typed t s) xs → IsOneOf t (of_sort s xs)) → (b : Bool) → Decides b (x.sort ≡ s) → IsOneOf (typed t s) (x ∷ xs)
        → IsOneOf t (if b then x.term ∷ of_sort s xs else of_sort s xs)
    step rec true d (inl q) = inl (ap (λ z. z.term) q)
    step rec true d (inr m) = inr (rec m)
    step rec false d (inl q) = let e : false ≡ true = d.1 (sym (ap (λ z. z.sort) q)) in absurd (cc)
    step rec false d (inr m) = rec m

-- lists of arguments
abbrev pub Picked : List (List Typed) → List ℕ → List TermTree → Type 0
Picked [] [] [] = Unit {0}
Picked (part ∷ parts) (s ∷ ss) (t ∷ ts) = IsOneOf t (of_sort s part) × Picked parts ss ts
Picked _ _ _ = ⊥

extended-sound : (ls : List (List TermTree)) (us : List TermTree) (l : List TermTree) → IsOneOf l (extended ls us)
    → (k : List TermTree) × ((u : TermTree) × (IsOneOf k ls × IsOneOf u us × (l ≡ k ++ (u ∷ []))))
extended-sound [] us l h = absurd h
extended-sound (k ∷ ls) us l h = elim (some_parts (λ y. l ≡ y) (map (λ t. k ++ (t ∷ [])) us) (extended ls us) h)
    [ inl m ↦ here m | inr m ↦ later (extended-sound ls us l m) ]
  where
    here : IsOneOf l (map (λ t. k ++ (t ∷ [])) us) → (k' : List TermTree) × ((u : TermTree)
        × (IsOneOf k' (k ∷ ls) × IsOneOf u us × (l ≡ k' ++ (u ∷ []))))
    here m = let r = from_map (λ t. k ++ (t ∷ [])) us l m in (k, (r.0, (inl refl, r.1, r.2)))

    later : (k' : List TermTree) × ((u : TermTree) × (IsOneOf k' ls × IsOneOf u us × (l ≡ k' ++ (u ∷ [])))) → (k' : List TermTree)
        × ((u : TermTree) × (IsOneOf k' (k ∷ ls) × IsOneOf u us × (l ≡ k' ++ (u ∷ []))))
    later r = (r.0, (r.1.0, (inr r.1.1.0, r.1.1.1, r.1.1.2)))

extended-complete : (ls : List (List TermTree)) (us : List TermTree) (k : List TermTree) (u : TermTree) → IsOneOf k ls → IsOneOf u us
    → IsOneOf (k ++ (u ∷ [])) (extended ls us)
extended-complete [] us k u h m = absurd h
extended-complete (j ∷ ls) us k u (inl e) m = some_left (λ y. (k ++ (u ∷ [])) ≡ y) (map (λ t. j ++ (t ∷ [])) us) (extended ls us)
    (subst (λ z. IsOneOf (z ++ (u ∷ [])) (map (λ t. j ++ (t ∷ [])) us)) (sym e) (one_map (λ t. j ++ (t ∷ [])) u us m))
extended-complete (j ∷ ls) us k u (inr h) m = some_right (λ y. (k ++ (u ∷ [])) ≡ y) (map (λ t. j ++ (t ∷ [])) us) (extended ls us)
    (extended-complete ls us k u h m)

lists-sound : (ls : List (List TermTree)) (parts : List (List Typed)) (sorts : List ℕ) (l : List TermTree)
    → IsOneOf l (argument_lists ls parts sorts) → (k : List TermTree) × ((ts : List TermTree)
    × (IsOneOf k ls × (l ≡ k ++ ts) × Picked parts sorts ts))
lists-sound ls [] [] l h = (l, ([], (h, sym (append-nil l), tt)))
lists-sound ls [] (s ∷ sorts) l h = absurd h
lists-sound ls (part ∷ parts) [] l h = absurd h
lists-sound ls (part ∷ parts) (s ∷ sorts) l h =
    let r = lists-sound (extended ls (of_sort s part)) parts sorts l h in
    let x = extended-sound ls (of_sort s part) r.0 r.1.1.0 in
    (x.0, (x.1.0 ∷ r.1.0, (x.1.1.0, r.1.1.1 ∙ ap (λ z. z ++ r.1.0) x.1.1.2 ∙ append_assoc x.0 (x.1.0 ∷ []) r.1.0, (x.1.1.1, r.1.1.2))))

lists-complete : (ls : List (List TermTree)) (parts : List (List Typed)) (sorts : List ℕ) (k ts : List TermTree) → IsOneOf k ls
    → Picked parts sorts ts → IsOneOf (k ++ ts) (argument_lists ls parts sorts)
lists-complete ls [] [] k [] h p = subst (λ z. IsOneOf z ls) (sym (append-nil k)) h
lists-complete ls [] [] k (t ∷ ts) h p = absurd p
lists-complete ls [] (s ∷ sorts) k ts h p = absurd p
lists-complete ls (part ∷ parts) [] k ts h p = absurd p
lists-complete ls (part ∷ parts) (s ∷ sorts) k [] h p = absurd p
lists-complete ls (part ∷ parts) (s ∷ sorts) k (t ∷ ts) h p =
    subst (λ z. IsOneOf z (argument_lists (extended ls (of_sort s part)) parts sorts)) (append_assoc k (t ∷ []) ts)
    (lists-complete (extended ls (of_sort s part)) parts sorts (k ++ (t ∷ [])) ts (extended-complete ls (of_sort s part) k t h p.0) p.1)

-- operations
pub operation-sound : (name : List ℕ) (parts : List (List Typed)) (f : ℕ) (d : Operation) (r : Typed)
    → IsOneOf r (of_operation name parts f d) → IsSameName d.name name × ((ts : List TermTree)
    × ((r.term ≡ apply f (terms ts)) × (r.sort ≡ d.result) × Picked parts d.args ts))
operation-sound name parts f d r h = step (is_same_name d.name name) (same-name d.name name) h
  where
    step : (b : Bool) → Decides b (IsSameName d.name name) → IsOneOf r (if b then map (application f d.result)
        (argument_lists ([] ∷ []) parts d.args) else []) → IsSameName d.name name
        × ((ts : List TermTree) × ((r.term ≡ apply f (terms ts)) × (r.sort ≡ d.result) × Picked parts d.args ts))
    step true e m =
        let x = from_map (application f d.result) (argument_lists ([] ∷ []) parts d.args) r m in
        let l = lists-sound ([] ∷ []) parts d.args x.0 x.1 in
        let k : l.0 ≡ [] = elim l.1.1.0 [ inl q ↦ q | inr q ↦ absurd q ] in
        let n : x.0 ≡ l.1.0 = l.1.1.1 ∙ ap (λ z. z ++ l.1.0) k in
        (e.0 refl, (l.1.0, (ap (λ z. z.term) x.2 ∙ ap (λ z. apply f (terms z)) n, ap (λ z. z.sort) x.2, l.1.1.2)))
    step false e m = absurd m

operation-complete : (name : List ℕ) (parts : List (List Typed)) (f : ℕ) (d : Operation) (ts : List TermTree) → IsSameName d.name name
    → Picked parts d.args ts → IsOneOf (application f d.result ts) (of_operation name parts f d)
operation-complete name parts f d ts same p = step (is_same_name d.name name) (same-name d.name name)
  where
    step : (b : Bool) → Decides b (IsSameName d.name name) → IsOneOf (application f d.result ts)
        (if b then map (application f d.result) (argument_lists ([] ∷ []) parts d.args) else [])
    step true e = one_map (application f d.result) ts (argument_lists ([] ∷ []) parts d.args)
        (lists-complete ([] ∷ []) parts d.args [] ts (inl refl) p)
    step false e = let n : false ≡ true = e.1 same in absurd (cc)

-- what an operation of the list gives
abbrev pub Given : List ℕ → List (List Typed) → TermTree → ℕ → ℕ → Operation → Type 0
Given name parts t sort f d = IsSameName d.name name × (d.result ≡ sort)
    × ((ts : List TermTree) × ((t ≡ apply f (terms ts)) × Picked parts d.args ts))

pub operations-sound : (name : List ℕ) (parts : List (List Typed)) (k : ℕ) (ds : List Operation) (r : Typed)
    → IsOneOf r (of_operations name parts k ds) → (i : ℕ) × OnSome (slice_get ds i) (Given name parts r.term r.sort (k + i))
operations-sound name parts k [] r h = absurd h
operations-sound name parts k (d ∷ ds) r h = elim (some_parts (λ y. r ≡ y) (of_operation name parts k d)
    (of_operations name parts (suc k) ds) h) [ inl m ↦ here m | inr m ↦ later (operations-sound name parts (suc k) ds r m) ]
  where
    here : IsOneOf r (of_operation name parts k d) → (i : ℕ) × OnSome (slice_get (d ∷ ds) i) (Given name parts r.term r.sort (k + i))
    here m = let o = operation-sound name parts k d r m in (
      0,
      (
        o.0,
        sym o.1.1.1,
        (o.1.0, (o.1.1.0 ∙ ap (λ f. apply f (terms o.1.0)) (omega arith), o.1.1.2)),
      ),
    )

    later : (i : ℕ) × OnSome (slice_get ds i) (Given name parts r.term r.sort (suc k + i)) → (i : ℕ)
        × OnSome (slice_get (d ∷ ds) i) (Given name parts r.term r.sort (k + i))
    later o =
        let e : suc k + o.0 ≡ k + suc o.0 = omega arith in
        (suc o.0, subst (λ f. OnSome (slice_get ds o.0) (Given name parts r.term r.sort f)) e o.1)

pub operations-complete : (name : List ℕ) (parts : List (List Typed)) (k : ℕ) (ds : List Operation) (t : TermTree) (sort i : ℕ)
    → OnSome (slice_get ds i) (Given name parts t sort (k + i)) → IsOneOf (typed t sort) (of_operations name parts k ds)
operations-complete name parts k [] t sort zero h = absurd h
operations-complete name parts k [] t sort (suc i) h = absurd h
operations-complete name parts k (d ∷ ds) t sort zero h =
    let o = operation-complete name parts k d h.2.0 h.0 h.2.1.1 in
    let e : typed t sort ≡ application k d.result h.2.0 = ap (λ z. typed z sort) (h.2.1.0
    ∙ ap (λ f. apply f (terms h.2.0)) (omega arith)) ∙ ap (λ s. typed (apply k (terms h.2.0)) s) (sym h.1) in
    some_left (λ y. typed t sort ≡ y) (of_operation name parts k d) (of_operations name parts (suc k) ds)
    (subst (λ z. IsOneOf z (of_operation name parts k d)) (sym e) o)
operations-complete name parts k (d ∷ ds) t sort (suc i) h =
    let e : k + suc i ≡ suc k + i = omega arith in
    some_right (λ y. typed t sort ≡ y) (of_operation name parts k d) (of_operations name parts (suc k) ds)
    (operations-complete name parts (suc k) ds t sort i (subst (λ f. OnSome (slice_get ds i) (Given name parts t sort f)) e h))
