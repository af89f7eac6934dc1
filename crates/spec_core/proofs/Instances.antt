-- The sorts of instances: what a term has, its instance has, where the terms for its variables have theirs, and the other way round.
use Rattle.std.proofs.Common.{ℕ, ◌≡◌, List, [], ◌∷◌, refl, sym, ap, subst, ◌∙◌, inl, inr, Option, Some, None}
use Rattle.std.specs.List.{slice_get}
use Rattle.std.proofs.lemmas.Option.{same_Some}
use Rattle.spec_core.specs.Terms.{TermTree, TermTrees, variable, apply, no_terms, and_term, instance, instances, Occurs, OccursInAny}
use Rattle.spec_core.specs.Theories.{Theory}
use Rattle.spec_core.specs.Sorts.{OnSome, HasSort, HaveSorts, no_variables}

pub on_both : {A R : Type 0} {P Q : A → Type 0} (o : Option A) → OnSome o P → OnSome o Q → ((d : A) → P d → Q d → R) → R
on_both None p q k = absurd p
on_both (Some d) p q k = k d p q

pub on_map : {A : Type 0} {P Q : A → Type 0} (o : Option A) → OnSome o P → ((d : A) → P d → Q d) → OnSome o Q
on_map None p k = p
on_map (Some d) p k = k d p

module _ (theory : Theory) (vars : ℕ → Option ℕ) (s : ℕ → TermTree) where
  mutual
    -- the terms for the variables of a term that has a sort have theirs
    pub bound_sort : (t : TermTree) (sort : ℕ) →
        HasSort theory vars t sort → HasSort theory no_variables (instance s t) sort → (x a : ℕ) → Occurs x t → vars x ≡ Some a →
        HasSort theory no_variables (s x) a
    bound_sort (variable y) sort h k x a o e =
        let q : sort ≡ a = same_Some _ _ (sym h ∙ ap vars (sym o) ∙ e) in
        subst (λ z. HasSort theory no_variables (s z) a) (sym o) (subst (λ b. HasSort theory no_variables (s y) b) q k)
    bound_sort (apply f ts) sort h k x a o e = on_both (slice_get theory.operations f) h k (λ d p q. bound_sorts ts d.args p.1 q.1 x a o e)

    pub bound_sorts : (ts : TermTrees) (sorts : List ℕ) →
        HaveSorts theory vars ts sorts → HaveSorts theory no_variables (instances s ts) sorts → (x a : ℕ) → OccursInAny x ts →
        vars x ≡ Some a → HasSort theory no_variables (s x) a
    bound_sorts no_terms sorts h k x a o e = absurd o
    bound_sorts (and_term t ts) [] h k x a o e = absurd h
    bound_sorts (and_term t ts) (c ∷ sorts) h k x a (inl o) e = bound_sort t c h.0 k.0 x a o e
    bound_sorts (and_term t ts) (c ∷ sorts) h k x a (inr o) e = bound_sorts ts sorts h.1 k.1 x a o e

  mutual
    -- an instance has the sort of its term
    pub instance_sort : (t : TermTree) (sort : ℕ) →
        HasSort theory vars t sort → ((x a : ℕ) → Occurs x t → vars x ≡ Some a → HasSort theory no_variables (s x) a) →
        HasSort theory no_variables (instance s t) sort
    instance_sort (variable y) sort h k = k y sort refl h
    instance_sort (apply f ts) sort h k = on_map (slice_get theory.operations f) h (λ d p. (p.0, instance_sorts ts d.args p.1 k))

    pub instance_sorts : (ts : TermTrees) (sorts : List ℕ) →
        HaveSorts theory vars ts sorts → ((x a : ℕ) → OccursInAny x ts → vars x ≡ Some a → HasSort theory no_variables (s x) a) →
        HaveSorts theory no_variables (instances s ts) sorts
    instance_sorts no_terms [] h k = tt
    instance_sorts no_terms (c ∷ sorts) h k = absurd h
    instance_sorts (and_term t ts) [] h k = absurd h
    instance_sorts (and_term t ts) (c ∷ sorts) h k =
        (instance_sort t c h.0 (λ x a o e. k x a (inl o) e), instance_sorts ts sorts h.1 (λ x a o e. k x a (inr o) e))
