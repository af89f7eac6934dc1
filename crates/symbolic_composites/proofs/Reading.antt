-- Which term of a sort a list of operations spells: it is read from the front, and no other reading of it is there.
use Rattle.std.proofs.Common.{ℕ, zero, suc, ◌≡◌, ◌<◌, ◌+◌, inl, inr, List, [], ◌∷◌, ◌++◌, length, refl, sym, ap, subst, ◌∙◌, arith}
use Rattle.std.proofs.Common.{Option, Some, None, append_assoc}
use Rattle.std.specs.List.{slice_get}
use Rattle.std.proofs.lemmas.List.{append-nil}
use Rattle.std.proofs.lemmas.Option.{none-some}
use Rattle.spec_core.specs.Terms.{TermTree, TermTrees, variable, apply, no_terms, and_term, preorder, preorders}
use Rattle.spec_core.specs.Theories.{Operation, Theory}
use Rattle.spec_core.specs.Sorts.{OnSome, HasSort, HaveSorts, no_variables}
use Rattle.spec_core.specs.Executable.{IsExecutable}
use Rattle.spec_core.specs.Values.{IsValue}
use Rattle.rule_model.specs.Fields.{Spells}
use Rattle.symbolic_composites.proofs.One.{IsKnown, One}
use Rattle.symbolic_composites.proofs.Parts.{same_number_known}
use Rattle.symbolic_composites.proofs.Valued.{value_known}

first_of : (f g : ℕ) (v u : List ℕ) → f ∷ v ≡ g ∷ u → (f ≡ g) × (v ≡ u)
first_of f g v u e = (cc, cc)

none_first : (f : ℕ) (v : List ℕ) → [] ≡ f ∷ v → ⊥
none_first f v e = cc

length_of : (xs ys : List ℕ) → length (xs ++ ys) ≡ length xs + length ys
length_of [] ys = omega arith
length_of (x ∷ xs) ys = let e = length_of xs ys in omega (arith, e)

module _ (theory : Theory) where
  -- the list begins with a term of the sort, behind which this is left
  abbrev Reads : ℕ → List ℕ → TermTree × List ℕ → Type 0
  Reads sort v p = (v ≡ preorder p.0 ++ p.1) × HasSort theory no_variables p.0 sort

  abbrev ReadsAll : List ℕ → List ℕ → TermTrees × List ℕ → Type 0
  ReadsAll sorts v p = (v ≡ preorders p.0 ++ p.1) × HaveSorts theory no_variables p.0 sorts

  nothing_read : (sort : ℕ) → One (Reads sort [])
  nothing_read sort = inr none
    where
      none : (p : TermTree × List ℕ) → Reads sort [] p → ⊥
      none (variable x, rest) h = none-some _ h.1
      none (apply f ts, rest) h = none_first f (preorders ts ++ rest) h.0

  -- an operation, and its arguments behind it
  read_operation : (sort f : ℕ) (v : List ℕ) → ((sorts : List ℕ) → One (ReadsAll sorts v)) → (o : Option Operation) →
      slice_get theory.operations f ≡ o → One (Reads sort (f ∷ v))
  read_operation sort f v all None q = inr none
    where
      none : (p : TermTree × List ℕ) → Reads sort (f ∷ v) p → ⊥
      none (variable x, rest) h = none-some _ h.1
      none (apply g ts, rest) h =
          let e = first_of f g v (preorders ts ++ rest) h.0 in
          subst (λ o. OnSome o (λ d. (d.result ≡ sort) × HaveSorts theory no_variables ts d.args))
          (ap (slice_get theory.operations) (sym e.0) ∙ q) h.1
  read_operation sort f v all (Some d) q = by_args (same_number_known d.result sort) (all d.args)
    where
      -- what the list begins with is this operation over terms of its sorts
      args_of : (g : ℕ) (ts : TermTrees) (rest : List ℕ) → Reads sort (f ∷ v) (apply g ts, rest) →
          (f ≡ g) × (v ≡ preorders ts ++ rest) × (d.result ≡ sort) × HaveSorts theory no_variables ts d.args
      args_of g ts rest h =
          let e = first_of f g v (preorders ts ++ rest) h.0 in
          let i = subst (λ o. OnSome o (λ c. (c.result ≡ sort) × HaveSorts theory no_variables ts c.args))
          (ap (slice_get theory.operations) (sym e.0) ∙ q) h.1 in
          (e.0, e.1, i.0, i.1)

      by_args : IsKnown (d.result ≡ sort) → One (ReadsAll d.args v) → One (Reads sort (f ∷ v))
      by_args (inr out) all = inr none
        where
          none : (p : TermTree × List ℕ) → Reads sort (f ∷ v) p → ⊥
          none (variable x, rest) h = none-some _ h.1
          none (apply g ts, rest) h = out (args_of g ts rest h).2
      by_args (inl s) (inr out) = inr none
        where
          none : (p : TermTree × List ℕ) → Reads sort (f ∷ v) p → ⊥
          none (variable x, rest) h = none-some _ h.1
          none (apply g ts, rest) h = let a = args_of g ts rest h in out (ts, rest) (a.1, a.3)
      by_args (inl s) (inl one) = inl (
        (apply f one.0.0, one.0.1),
        (
          ap (λ u. f ∷ u) one.1.0,
          subst (λ o. OnSome o (λ c. (c.result ≡ sort) × HaveSorts theory no_variables one.0.0 c.args)) (sym q) (s, one.1.1),
        ),
        only,
      )
        where
          only : (p : TermTree × List ℕ) → Reads sort (f ∷ v) p → p ≡ (apply f one.0.0, one.0.1)
          only (variable x, rest) h = absurd (none-some _ h.1)
          only (apply g ts, rest) h =
              let a = args_of g ts rest h in
              ap (λ n. (apply n ts, rest)) (sym a.0) ∙ ap (λ (z : TermTrees × List ℕ). (apply f z.0, z.1)) (one.2 (ts, rest) (a.1, a.3))

  -- a term, and further ones behind it
  read_more : (sort : ℕ) (sorts v : List ℕ) (n : ℕ) → length v < n → One (Reads sort v) →
      ((rest : List ℕ) → length rest < n → One (ReadsAll sorts rest)) → One (ReadsAll (sort ∷ sorts) v)
  read_more sort sorts v n l (inr out) next = inr none
    where
      none : (p : TermTrees × List ℕ) → ReadsAll (sort ∷ sorts) v p → ⊥
      none (no_terms, rest) h = h.1
      none (and_term t ts, rest) h =
          out (t, preorders ts ++ rest) (h.0 ∙ append_assoc (preorder t) (preorders ts) rest, h.1.0)
  read_more sort sorts v n l (inl one) next = by_rest (next one.0.1 shorter)
    where
      shorter : length one.0.1 < n
      shorter = let e = ap length one.1.0 ∙ length_of (preorder one.0.0) one.0.1 in omega (arith, l, e)

      -- the first term is the one that was read
      first_is : (t : TermTree) (ts : TermTrees) (rest : List ℕ) → ReadsAll (sort ∷ sorts) v (and_term t ts, rest) →
          (t, preorders ts ++ rest) ≡ one.0
      first_is t ts rest h = one.2 (t, preorders ts ++ rest) (h.0 ∙ append_assoc (preorder t) (preorders ts) rest, h.1.0)

      by_rest : One (ReadsAll sorts one.0.1) → One (ReadsAll (sort ∷ sorts) v)
      by_rest (inr out) = inr none
        where
          none : (p : TermTrees × List ℕ) → ReadsAll (sort ∷ sorts) v p → ⊥
          none (no_terms, rest) h = h.1
          none (and_term t ts, rest) h =
              out (ts, rest) (sym (ap (λ (z : TermTree × List ℕ). z.1) (first_is t ts rest h)), h.1.1)
      by_rest (inl more) = inl (
        (and_term one.0.0 more.0.0, more.0.1),
        (
          one.1.0 ∙ ap (λ u. preorder one.0.0 ++ u) more.1.0 ∙ sym (append_assoc (preorder one.0.0) (preorders more.0.0) more.0.1),
          (one.1.1, more.1.1),
        ),
        only,
      )
        where
          only : (p : TermTrees × List ℕ) → ReadsAll (sort ∷ sorts) v p → p ≡ (and_term one.0.0 more.0.0, more.0.1)
          only (no_terms, rest) h = absurd h.1
          only (and_term t ts, rest) h =
              let e = first_is t ts rest h in
              let left : one.0.1 ≡ preorders ts ++ rest = sym (ap (λ (z : TermTree × List ℕ). z.1) e) in
              ap (λ (z : TermTree × List ℕ). (and_term z.0 ts, rest)) e
              ∙ ap (λ (z : TermTrees × List ℕ). (and_term one.0.0 z.0, z.1)) (more.2 (ts, rest) (left, h.1.1))

  -- with a reader of single terms: terms of these sorts, one behind the other
  all_read : (n : ℕ) → ((sort : ℕ) (v : List ℕ) → length v < n → One (Reads sort v)) → (sorts v : List ℕ) → length v < n →
      One (ReadsAll sorts v)
  all_read n read [] v l = inl ((no_terms, v), (refl, tt), only)
    where
      only : (p : TermTrees × List ℕ) → ReadsAll [] v p → p ≡ (no_terms, v)
      only (no_terms, rest) h = ap (λ (u : List ℕ). (no_terms, u)) (sym h.0)
      only (and_term t ts, rest) h = absurd h.1
  all_read n read (sort ∷ sorts) v l = read_more sort sorts v n l (read sort v l) (λ rest k. all_read n read sorts rest k)

  one_read : (n sort : ℕ) (v : List ℕ) → length v < n → One (Reads sort v)
  one_read zero sort v l = absurd (omega (arith, l))
  one_read (suc n) sort [] l = nothing_read sort
  one_read (suc n) sort (f ∷ v) l =
      read_operation sort f v (λ sorts. all_read n (λ s u k. one_read n s u k) sorts v (omega (arith, l)))
      (slice_get theory.operations f) refl

  pub one_spelled : IsExecutable theory → (v : List ℕ) (sort : ℕ) → One (λ n. Spells theory v n sort)
  one_spelled executable v sort = by_read (one_read (suc (length v)) sort v (omega arith))
    where
      whole : (n : TermTree) → Spells theory v n sort → Reads sort v (n, [])
      whole n h = (h.spelled ∙ sym (append-nil (preorder n)), h.of_sort)

      by_read : One (Reads sort v) → One (λ n. Spells theory v n sort)
      by_read (inr out) = inr (λ n h. out (n, []) (whole n h))
      by_read (inl one) = by_rest one.0.1 refl (value_known theory executable one.0.0 sort one.1.1)
        where
          term_is : (n : TermTree) → Spells theory v n sort → n ≡ one.0.0
          term_is n h = ap (λ (z : TermTree × List ℕ). z.0) (one.2 (n, []) (whole n h))

          by_rest : (rest : List ℕ) → one.0.1 ≡ rest → IsKnown (IsValue theory one.0.0) → One (λ n. Spells theory v n sort)
          by_rest (f ∷ rest) q c =
              inr (λ n h. none_first f rest (ap (λ (z : TermTree × List ℕ). z.1) (one.2 (n, []) (whole n h)) ∙ q))
          by_rest [] q (inr out) = inr (λ n h. out (subst (IsValue theory) (term_is n h) h.is_value))
          by_rest [] q (inl c) = inl (
            one.0.0,
            record {
              spelled = one.1.0 ∙ ap (λ u. preorder one.0.0 ++ u) q ∙ append-nil (preorder one.0.0);
              of_sort = one.1.1;
              is_value = c;
            },
            term_is,
          )
