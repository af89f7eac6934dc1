-- Which sorts have values.
use Rattle.std.proofs.Common.{ℕ, ◌≡◌, List, [], ◌∷◌, Bool, sym, subst}
use Rattle.std.specs.List.{slice_get}
use Rattle.spec_core.specs.Lists.{Each}
use Rattle.spec_core.specs.Terms.{TermTree, TermTrees, variable, apply, no_terms, and_term}
use Rattle.spec_core.specs.Theories.{Theory}
use Rattle.spec_core.specs.Sorts.{OnSome, HasSort, HaveSorts, no_variables}
use Rattle.spec_core.specs.Constructors.{IsConstructor, IsConstructed, AreConstructed}
use Rattle.equation_sets.specs.Members.{IsIn}
use Rattle.cover_search.specs.Sorts.{IsInhabited, AreIn, AllInhabited, IsDeclaredAt, IsClosedAt}
use Rattle.cover_search.proofs.Options.{on_some}

module _ (theory : Theory) where
  -- terms of the sorts of a list
  pub some_terms : (sorts : List ℕ) → Each (IsInhabited theory) sorts →
      (ts : TermTrees) × HaveSorts theory no_variables ts sorts × AreConstructed theory ts
  some_terms [] h = (no_terms, tt, tt)
  some_terms (s ∷ sorts) h = let r = some_terms sorts h.1 in (and_term h.0.0 r.0, (h.0.1, r.1), (h.0.2, r.2))

  all_of_them : (set : List Bool) (sorts : List ℕ) → AllInhabited theory set → AreIn set sorts → Each (IsInhabited theory) sorts
  all_of_them set [] all h = tt
  all_of_them set (s ∷ sorts) all h = (all s h.0, all_of_them set sorts all h.1)

  -- the result sort of a constructor over inhabited sorts is inhabited
  pub made_by : (set : List Bool) (c : ℕ) (args : List ℕ) (result : ℕ) → IsDeclaredAt theory c args result → IsConstructor theory c →
      AllInhabited theory set → AreIn set args → IsInhabited theory result
  made_by set c args result d k all h =
      let o = on_some (slice_get theory.operations c) (λ d. (d.args ≡ args) × (d.result ≡ result)) d in
      let r = some_terms args (all_of_them set args all h) in
      (apply c r.0, subst (λ x. OnSome x (λ d. (d.result ≡ result) × HaveSorts theory no_variables r.0 d.args)) (sym o.1) (o.2.1, subst (HaveSorts theory no_variables r.0) (sym o.2.0) r.1), (k, r.2))

  -- a closed set has the sort of each ground constructor term
  mutual
    pub all_in : (set : List Bool) → ((c : ℕ) → IsClosedAt theory set c) → (t : TermTree) (s : ℕ) → HasSort theory no_variables t s →
        IsConstructed theory t → IsIn s set
    all_in set closed (variable x) s h k = absurd k
    all_in set closed (apply c ts) s h k =
        let o = on_some (slice_get theory.operations c) (λ d. (d.result ≡ s) × HaveSorts theory no_variables ts d.args) h in
        subst (λ r. IsIn r set) o.2.0 (closed c o.0 o.1 k.0 (each_in set closed ts o.0.args o.2.1 k.1))

    each_in : (set : List Bool) → ((c : ℕ) → IsClosedAt theory set c) → (ts : TermTrees) (sorts : List ℕ) →
        HaveSorts theory no_variables ts sorts → AreConstructed theory ts → AreIn set sorts
    each_in set closed no_terms [] h k = tt
    each_in set closed no_terms (s ∷ sorts) h k = absurd h
    each_in set closed (and_term t ts) [] h k = absurd h
    each_in set closed (and_term t ts) (s ∷ sorts) h k = (all_in set closed t s h.0 k.0, each_in set closed ts sorts h.1 k.1)
