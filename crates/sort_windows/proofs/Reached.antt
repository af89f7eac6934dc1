-- Where each constructor over values of the windows is found, each value is.
use Rattle.std.proofs.Common.{ℕ, ◌≡◌, ◌<◌, ◌≤◌, ◌⊎◌, inl, inr, List, [], ◌∷◌, ◌++◌, length, map, refl, ap, sym, subst, ◌∙◌, arith}
use Rattle.std.proofs.Common.{append_assoc, length-append, Option, Some, None}
use Rattle.std.proofs.lemmas.List.{append-nil, length-map}
use Rattle.std.specs.List.{slice_get}
use Rattle.spec_core.specs.Lists.{Each, IsOneOf}
use Rattle.spec_core.specs.Terms.{TermTree, TermTrees, variable, apply, no_terms, and_term, preorder, preorders}
use Rattle.spec_core.specs.Theories.{Operation, Theory}
use Rattle.spec_core.specs.Sorts.{OnSome, HasSort, HaveSorts, no_variables}
use Rattle.spec_core.specs.Constructors.{IsConstructor, IsConstructed, AreConstructed}
use Rattle.spec_core.specs.Windows.{IsBefore, IsInOrder, IsMember}
use Rattle.spec_core.proofs.Lists.{each_implied, each_always}
use Rattle.spec_core.proofs.Members.{each_one}
use Rattle.sort_windows.specs.Found.{IsFound, IsClosedFrom, IsClosed, BeginsMembers, AreWindows}
use Rattle.sort_windows.proofs.Order.{before_onward, before_inside, each_of_map, in_order_inside, same_or_shorter}

-- all lists are of the window, or one lies beyond it
all_or_beyond : (limit : ℕ) (window : List (List ℕ)) (f : List ℕ → List ℕ) (xs : List (List ℕ)) →
    Each (λ x. IsFound limit window (f x)) xs →
    Each (λ x. IsOneOf (f x) window) xs ⊎ ((x : List ℕ) × IsOneOf x xs × (length window ≡ limit) × Each (λ w. IsBefore w (f x)) window)
all_or_beyond limit window f [] h = inl tt
all_or_beyond limit window f (x ∷ xs) (inr b, h) = inr (x, inl refl, b.0, b.1)
all_or_beyond limit window f (x ∷ xs) (inl m, h) = go (all_or_beyond limit window f xs h)
  where
    go :
        Each (λ x. IsOneOf (f x) window) xs ⊎
        ((x : List ℕ) × IsOneOf x xs × (length window ≡ limit) × Each (λ w. IsBefore w (f x)) window) →
        Each (λ x. IsOneOf (f x) window) (x ∷ xs) ⊎
        ((y : List ℕ) × IsOneOf y (x ∷ xs) × (length window ≡ limit) × Each (λ w. IsBefore w (f y)) window)
    go (inl e) = inl (m, e)
    go (inr b) = inr (b.0, inr b.1, b.2, b.3)

-- a value in the place of those of a window: where it lies beyond them, so does the whole
replaced : (limit : ℕ) (window inner : List (List ℕ)) (p q v : List ℕ) →
    IsInOrder window → length window ≤ limit → IsInOrder inner → Each (λ w. IsFound limit window ((p ++ w) ++ q)) inner →
    IsFound limit inner v → IsFound limit window ((p ++ v) ++ q)
replaced limit window inner p q v order most inner_order h (inl m) = each_one (λ w. IsFound limit window ((p ++ w) ++ q)) inner v h m
replaced limit window inner p q v order most inner_order h (inr b) = go (all_or_beyond limit window (λ w. (p ++ w) ++ q) inner h)
  where
    ends : (map (λ w. (p ++ w) ++ q) inner ≡ window) ⊎ (length (map (λ w. (p ++ w) ++ q) inner) < length window) →
        IsFound limit window ((p ++ v) ++ q)
    ends (inr t) = absurd (let e = length-map inner (λ w. (p ++ w) ++ q) in let full : length inner ≡ limit = b.0 in omega (arith, e))
    ends (inl t) =
        inr (
          sym (ap length t)
              ∙ length-map inner (λ w. (p ++ w) ++ q)
              ∙ b.0,
          subst (λ ws. Each (λ w. IsBefore w ((p ++ v) ++ q)) ws) t
              (each_of_map _ (λ w. (p ++ w) ++ q) inner (each_implied _ _ inner (λ w k. before_inside p w v q k) b.1)),
        )

    go :
        Each (λ x. IsOneOf ((p ++ x) ++ q) window) inner ⊎
        ((x : List ℕ) × IsOneOf x inner × (length window ≡ limit) × Each (λ w. IsBefore w ((p ++ x) ++ q)) window) →
        IsFound limit window ((p ++ v) ++ q)
    go (inr s) =
        inr (
          s.2,
          each_implied _ _ window
              (λ w k.
              before_onward w ((p ++ s.0) ++ q) ((p ++ v) ++ q) k
              (before_inside p s.0 v q (each_one (λ w. IsBefore w v) inner s.0 b.1 s.1))) s.3,
        )
    go (inl s) =
        ends (same_or_shorter (map (λ w. (p ++ w) ++ q) inner) window (in_order_inside p q inner inner_order) order
        (each_of_map _ (λ w. (p ++ w) ++ q) inner s))

some_both : {A : Type 0} (P : A → Type 0) (o : Option A) → OnSome o P → (x : A) × (o ≡ Some x) × P x
some_both P None h = absurd h
some_both P (Some x) h = (x, refl, h)

module _ (theory : Theory) (limit : ℕ) (windows : ℕ → List (List ℕ)) (closed : IsClosed theory limit windows)
    (sound : AreWindows theory limit windows) where
  mutual
    term_found : (t : TermTree) (s : ℕ) → HasSort theory no_variables t s → IsConstructed theory t → IsFound limit (windows s) (preorder t)
    term_found (variable x) s h c = absurd c
    term_found (apply f ts) s h c =
        let d = some_both (λ d. (d.result ≡ s) × HaveSorts theory no_variables ts d.args) (slice_get theory.operations f) h in
        subst (λ r. IsFound limit (windows r) (f ∷ preorders ts)) d.2.0
        (terms_found ts d.0.args d.0.result (f ∷ []) d.2.1 c.1 (closed f c.0 d.0 d.1))

    terms_found : (ts : TermTrees) (args : List ℕ) (s : ℕ) (p : List ℕ) →
        HaveSorts theory no_variables ts args → AreConstructed theory ts → IsClosedFrom limit windows s args p →
        IsFound limit (windows s) (p ++ preorders ts)
    terms_found no_terms [] s p h c k = subst (IsFound limit (windows s)) (sym (append-nil p)) k
    terms_found no_terms (a ∷ args) s p h c k = absurd h
    terms_found (and_term t ts) [] s p h c k = absurd h
    terms_found (and_term t ts) (a ∷ args) s p h c k =
        subst (IsFound limit (windows s)) (append_assoc p (preorder t) (preorders ts))
        (replaced limit (windows s) (windows a) p (preorders ts) (preorder t) (sound.in_order s) (sound.at_most s) (sound.in_order a)
        (each_implied _ _ (windows a) (λ w kw. terms_found ts args s (p ++ w) h.1 c.1 kw) k)
        (term_found t a h.0 c.0))

  pub value_found : (s : ℕ) (v : List ℕ) → IsMember theory s v → IsFound limit (windows s) v
  value_found s v m = subst (IsFound limit (windows s)) (sym m.1) (term_found m.0 s m.2 m.3)

begins_by : (theory : Theory) (sort : ℕ) (args : List ℕ) (p : List ℕ) →
    ((ts : TermTrees) → HaveSorts theory no_variables ts args → AreConstructed theory ts → IsMember theory sort (p ++ preorders ts)) →
    BeginsMembers theory sort args p
begins_by theory sort [] p f = subst (IsMember theory sort) (append-nil p) (f no_terms tt tt)
begins_by theory sort (a ∷ args) p f = λ v m.
    begins_by theory sort args (p ++ v)
    (λ ts h c.
    let e : p ++ preorders (and_term m.0 ts) ≡ (p ++ v) ++ preorders ts =
    sym (append_assoc p (preorder m.0) (preorders ts)) ∙ ap (λ w. (p ++ w) ++ preorders ts) (sym m.1) in
    subst (IsMember theory sort) e (f (and_term m.0 ts) (m.2, h) (m.3, c)))

-- a constructor begins the values that it makes
pub begins_members : (theory : Theory) (f : ℕ) (d : Operation) →
    IsConstructor theory f → slice_get theory.operations f ≡ Some d → BeginsMembers theory d.result d.args (f ∷ [])
begins_members theory f d c e =
    begins_by theory d.result d.args (f ∷ [])
    (λ ts h k. (
      apply f ts,
      refl,
      subst (λ o. OnSome o (λ x. (x.result ≡ d.result) × HaveSorts theory no_variables ts x.args)) (sym e) (refl, h),
      (c, k),
    ))

-- where a window is full of shorter lists, all that continue a list are found there
pub shorter_closed : (limit : ℕ) (windows : ℕ → List (List ℕ)) (sort : ℕ) (args : List ℕ) (front : List ℕ) →
    length (windows sort) ≡ limit → Each (λ w. length w < length front) (windows sort) → IsClosedFrom limit windows sort args front
shorter_closed limit windows sort [] front full h = inr (full, each_implied _ _ (windows sort) (λ w k. inl k) h)
shorter_closed limit windows sort (a ∷ args) front full h =
    each_always _ (windows a) (λ v. shorter_closed limit windows sort args (front ++ v) full
    (each_implied _ _ (windows sort) (λ w k. omega (arith, k, length-append front v)) h))
