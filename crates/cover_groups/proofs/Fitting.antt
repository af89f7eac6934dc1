-- The premises of a group are over the variables of its left side.
use Rattle.std.proofs.Common.{ℕ, ◌≡◌, List, [], ◌∷◌, Option, Some, map, refl, sym, ap, subst, ◌∙◌, inl, inr}
use Rattle.std.specs.List.{slice_get}
use Rattle.cover_search.proofs.Options.{both_on, on_some}
use Rattle.spec_core.specs.Lists.{Each, OneOf}
use Rattle.spec_core.specs.Terms.{TermTree, TermTrees, variable, apply, no_terms, and_term, instance, instances, Occurs, OccursInAny}
use Rattle.spec_core.specs.Theories.{Premise, premise, ConditionalEquation, Theory, OccursInPremises}
use Rattle.spec_core.specs.Sorts.{OnSome, HasSort, HaveSorts, PremiseFits, EquationFits}
use Rattle.spec_core.specs.Orthogonality.{HasNoLooseVariables, renamed}
use Rattle.spec_core.specs.Cover.{IsGroup, IsOfGroup}
use Rattle.spec_core.proofs.Members.{some_of_each}
use Rattle.cover_groups.specs.Fullness.{AllFit}

abbrev Under : (ℕ → ℕ) → TermTree → TermTree
Under r t = instance (λ x. variable (r x)) t

module _ (theory : Theory) (vars wars : ℕ → Option ℕ) (r : ℕ → ℕ) where
  -- a variable that takes another one's place has its sort
  mutual
    name_sort : (t : TermTree) (s x a : ℕ) → HasSort theory vars t s → HasSort theory wars (Under r t) s → Occurs x t → vars x ≡ Some a →
        wars (r x) ≡ Some a
    name_sort (variable y) s x a h k o e = subst (λ z. wars (r z) ≡ Some a) (sym o) (k ∙ sym h ∙ ap vars (sym o) ∙ e)
    name_sort (apply f ts) s x a h k o e =
        let d = both_on (slice_get theory.operations f) (λ d. (d.result ≡ s) × HaveSorts theory vars ts d.args) (λ d. (d.result ≡ s) × HaveSorts theory wars (instances (λ x. variable (r x)) ts) d.args) h k in
        name_sorts ts d.0.args x a d.2.1 d.3.1 o e

    name_sorts : (ts : TermTrees) (sorts : List ℕ) (x a : ℕ) → HaveSorts theory vars ts sorts →
        HaveSorts theory wars (instances (λ x. variable (r x)) ts) sorts → OccursInAny x ts → vars x ≡ Some a → wars (r x) ≡ Some a
    name_sorts no_terms sorts x a h k o e = absurd o
    name_sorts (and_term t ts) [] x a h k o e = absurd h
    name_sorts (and_term t ts) (s ∷ sorts) x a h k (inl o) e = name_sort t s x a h.0 k.0 o e
    name_sorts (and_term t ts) (s ∷ sorts) x a h k (inr o) e = name_sorts ts sorts x a h.1 k.1 o e

  mutual
    renamed_sort : (t : TermTree) (s : ℕ) → ((x a : ℕ) → Occurs x t → vars x ≡ Some a → wars (r x) ≡ Some a) → HasSort theory vars t s →
        HasSort theory wars (Under r t) s
    renamed_sort (variable x) s m h = m x s refl h
    renamed_sort (apply f ts) s m h =
        let d = on_some (slice_get theory.operations f) (λ d. (d.result ≡ s) × HaveSorts theory vars ts d.args) h in
        subst (λ o. OnSome o (λ d. (d.result ≡ s) × HaveSorts theory wars (instances (λ x. variable (r x)) ts) d.args)) (sym d.1) (d.2.0, renamed_sorts ts d.0.args m d.2.1)

    renamed_sorts : (ts : TermTrees) (sorts : List ℕ) → ((x a : ℕ) → OccursInAny x ts → vars x ≡ Some a → wars (r x) ≡ Some a) →
        HaveSorts theory vars ts sorts → HaveSorts theory wars (instances (λ x. variable (r x)) ts) sorts
    renamed_sorts no_terms [] m h = tt
    renamed_sorts no_terms (s ∷ sorts) m h = absurd h
    renamed_sorts (and_term t ts) [] m h = absurd h
    renamed_sorts (and_term t ts) (s ∷ sorts) m h =
        (renamed_sort t s (λ x a o. m x a (inl o)) h.0, renamed_sorts ts sorts (λ x a o. m x a (inr o)) h.1)

  premises_fit : (ps : List Premise) → ((x a : ℕ) → OccursInPremises x ps → vars x ≡ Some a → wars (r x) ≡ Some a) →
      Each (PremiseFits theory vars) ps → Each (PremiseFits theory wars) (map (renamed r) ps)
  premises_fit [] m h = tt
  premises_fit (premise a b ∷ ps) m h =
      ((h.0.0, renamed_sort a h.0.0 (λ x y o. m x y (inl o)) h.0.1, renamed_sort b h.0.0 (λ x y o. m x y (inr (inl o))) h.0.2), premises_fit ps (λ x y o. m x y (inr (inr o))) h.1)

  -- a term under new names has its sort
  same_sort : (f : ℕ) (ts us : TermTrees) (s q : ℕ) → HasSort theory vars (apply f ts) s → HasSort theory wars (apply f us) q → q ≡ s
  same_sort f ts us s q h k =
      let d = both_on (slice_get theory.operations f) (λ d. (d.result ≡ s) × HaveSorts theory vars ts d.args) (λ d. (d.result ≡ q) × HaveSorts theory wars us d.args) h k in
      sym d.3.0 ∙ d.2.0

  left_names : (t k : TermTree) (s q : ℕ) → ((x : ℕ) → k ≡ variable x → ⊥) → Under r t ≡ k → HasSort theory vars t s →
      HasSort theory wars k q → (x a : ℕ) → Occurs x t → vars x ≡ Some a → wars (r x) ≡ Some a
  left_names (variable y) k s q n e h j x a o v = absurd (n (r y) (sym e))
  left_names (apply f ts) k s q n e h j x a o v =
      let j' : HasSort theory wars (apply f (instances (λ x. variable (r x)) ts)) q = subst (λ z. HasSort theory wars z q) (sym e) j in
      let same = same_sort f ts (instances (λ x. variable (r x)) ts) s q h j' in
      name_sort (apply f ts) s x a h (subst (λ z. HasSort theory wars (apply f (instances (λ x. variable (r x)) ts)) z) same j') o v

pub group_fits : (theory : Theory) (e : ConditionalEquation) (lists : List (List Premise)) → Each (EquationFits theory) theory.equations →
    Each HasNoLooseVariables theory.equations →
    EquationFits theory e → ((x : ℕ) → e.left ≡ variable x → ⊥) → IsGroup theory e.left lists → AllFit theory (slice_get e.sorts) lists
group_fits theory e lists fits closed ef n g = all lists g.from_equations
  where
    one : (ps : List Premise) → OneOf (IsOfGroup e.left ps) theory.equations → Each (PremiseFits theory (slice_get e.sorts)) ps
    one ps o =
        let d = some_of_each (EquationFits theory) HasNoLooseVariables (IsOfGroup e.left ps) theory.equations fits closed o in
        let names = left_names theory (slice_get d.0.sorts) (slice_get e.sorts) d.3.0 d.0.left e.left d.1.sides.0 ef.sides.0 n d.3.1 d.1.sides.1 ef.sides.1 in
        subst (Each (PremiseFits theory (slice_get e.sorts))) (sym d.3.2)
        (premises_fit theory (slice_get d.0.sorts) (slice_get e.sorts) d.3.0 d.0.premises (λ x a o. names x a (d.2.premises x o)) d.1.premises)

    all : (ls : List (List Premise)) → Each (λ ps. OneOf (IsOfGroup e.left ps) theory.equations) ls → AllFit theory (slice_get e.sorts) ls
    all [] h = tt
    all (l ∷ ls) h = (one l h.0, all ls h.1)
