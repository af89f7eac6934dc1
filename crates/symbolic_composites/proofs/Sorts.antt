-- Whether a term has a sort, and which.
use Rattle.std.proofs.Common.{ℕ, ◌≡◌, inl, inr, List, [], ◌∷◌, refl, sym, subst, Option, Some, None}
use Rattle.std.specs.List.{slice_get}
use Rattle.std.proofs.lemmas.Option.{none-some}
use Rattle.spec_core.specs.Terms.{TermTree, TermTrees, variable, apply, no_terms, and_term}
use Rattle.spec_core.specs.Theories.{Operation, Theory}
use Rattle.spec_core.specs.Sorts.{OnSome, HasSort, HaveSorts, no_variables}
use Rattle.symbolic_composites.proofs.One.{IsKnown, One}
use Rattle.symbolic_composites.proofs.Parts.{same_number_known}

module _ (theory : Theory) where
  -- an operation over terms of which it is known whether they have given sorts
  applied : (f : ℕ) (ts : TermTrees) → ((sorts : List ℕ) → IsKnown (HaveSorts theory no_variables ts sorts)) → (o : Option Operation) →
      slice_get theory.operations f ≡ o → One (HasSort theory no_variables (apply f ts))
  applied f ts known None q =
      inr (λ sort h. subst (λ o. OnSome o (λ d. (d.result ≡ sort) × HaveSorts theory no_variables ts d.args)) q h)
  applied f ts known (Some d) q = by_args (known d.args)
    where
      parts_of : (sort : ℕ) → HasSort theory no_variables (apply f ts) sort → (d.result ≡ sort) × HaveSorts theory no_variables ts d.args
      parts_of sort h = subst (λ o. OnSome o (λ d. (d.result ≡ sort) × HaveSorts theory no_variables ts d.args)) q h

      by_args : IsKnown (HaveSorts theory no_variables ts d.args) → One (HasSort theory no_variables (apply f ts))
      by_args (inl h) = inl (
        d.result,
        subst (λ o. OnSome o (λ c. (c.result ≡ d.result) × HaveSorts theory no_variables ts c.args)) (sym q) (refl, h),
        λ sort k. sym (parts_of sort k).0,
      )
      by_args (inr out) = inr (λ sort k. out (parts_of sort k).1)

  joined : (t : TermTree) (ts : TermTrees) (sort : ℕ) (sorts : List ℕ) → One (HasSort theory no_variables t) →
      IsKnown (HaveSorts theory no_variables ts sorts) → IsKnown (HaveSorts theory no_variables (and_term t ts) (sort ∷ sorts))
  joined t ts sort sorts (inr out) k = inr (λ h. out sort h.0)
  joined t ts sort sorts (inl one) (inr out) = inr (λ h. out h.1)
  joined t ts sort sorts (inl one) (inl k) = by_sort (same_number_known one.0 sort)
    where
      by_sort : IsKnown (one.0 ≡ sort) → IsKnown (HaveSorts theory no_variables (and_term t ts) (sort ∷ sorts))
      by_sort (inl e) = inl (subst (λ s. HasSort theory no_variables t s) e one.1, k)
      by_sort (inr out) = inr (λ h. out (sym (one.2 sort h.0)))

  mutual
    pub one_sort_of : (t : TermTree) → One (HasSort theory no_variables t)
    one_sort_of (variable x) = inr (λ sort h. none-some _ h)
    one_sort_of (apply f ts) = applied f ts (λ sorts. sorts_known ts sorts) (slice_get theory.operations f) refl

    sorts_known : (ts : TermTrees) (sorts : List ℕ) → IsKnown (HaveSorts theory no_variables ts sorts)
    sorts_known no_terms [] = inl tt
    sorts_known no_terms (sort ∷ sorts) = inr (λ h. h)
    sorts_known (and_term t ts) [] = inr (λ h. h)
    sorts_known (and_term t ts) (sort ∷ sorts) = joined t ts sort sorts (one_sort_of t) (sorts_known ts sorts)
