-- Terms that fit, and their values.
use Rattle.std.proofs.Common.{ℕ, ◌≡◌, List, [], ◌∷◌, sym, ap, subst, ◌∙◌, Option, Some, None}
use Rattle.std.specs.List.{slice_get}
use Rattle.spec_core.specs.Lists.{Each}
use Rattle.spec_core.specs.Terms.{TermTree, TermTrees, variable, apply, no_terms, and_term, instance, Occurs}
use Rattle.spec_core.specs.Theories.{ConditionalEquation, Theory}
use Rattle.spec_core.specs.Sorts.{OnSome, HasSort, HaveSorts, no_variables}
use Rattle.spec_core.specs.Orthogonality.{HasNoLooseVariables}
use Rattle.spec_core.specs.Evaluation.{EvaluatesAll}
use Rattle.data_laws.proofs.Sorted.{IsSorted, keep_sorts}
use Rattle.spec_core.proofs.Instances.{on_map, bound_sort, instance_sort}

abbrev pub IsFit : Theory → ℕ → TermTrees → Type 0
IsFit theory g ts = OnSome (slice_get theory.operations g) (λ d. HaveSorts theory no_variables ts d.args)

abbrev mutual
  pub Fits : Theory → TermTree → Type 0
  Fits theory (variable x) = ⊥
  Fits theory (apply g ts) = IsFit theory g ts × FitAll theory ts

  pub FitAll : Theory → TermTrees → Type 0
  FitAll theory no_terms = Unit {0}
  FitAll theory (and_term t ts) = Fits theory t × FitAll theory ts

pub on_use : {A : Type 0} {R : Type 0} {P : A → Type 0} (o : Option A) → OnSome o P → ((d : A) → P d → R) → R
on_use None p k = absurd p
on_use (Some d) p k = k d p

no_variable : (x sort : ℕ) → no_variables x ≡ Some sort → ⊥
no_variable x sort e = cc

mutual
  pub fits_sorted : (theory : Theory) (t : TermTree) (sort : ℕ) → HasSort theory no_variables t sort → Fits theory t
  fits_sorted theory (variable x) sort h = no_variable x sort h
  fits_sorted theory (apply g ts) sort h = (
    on_map (slice_get theory.operations g) h (λ d p. p.1),
    on_use (slice_get theory.operations g) h (λ d p. fit_all_sorted theory ts d.args p.1),
  )

  pub fit_all_sorted : (theory : Theory) (ts : TermTrees) (sorts : List ℕ) → HaveSorts theory no_variables ts sorts → FitAll theory ts
  fit_all_sorted theory no_terms sorts h = tt
  fit_all_sorted theory (and_term t ts) [] h = absurd h
  fit_all_sorted theory (and_term t ts) (c ∷ sorts) h = (fits_sorted theory t c h.0, fit_all_sorted theory ts sorts h.1)

pub fit_values : (theory : Theory) (tight : Each HasNoLooseVariables theory.equations) (sorted : Each (IsSorted theory) theory.equations)
    (g : ℕ) {ts vs : TermTrees} {k : ℕ} → EvaluatesAll theory ts vs k → IsFit theory g ts → IsFit theory g vs
fit_values theory tight sorted g e h = on_map (slice_get theory.operations g) h (λ d p. keep_sorts theory tight sorted e d.args p)

on_zip : {A : Type 0} (P Q : A → Type 0) (o : Option A) → OnSome o P → OnSome o Q → OnSome o (λ d. P d × Q d)
on_zip P Q None p q = p
on_zip P Q (Some d) p q = (p, q)

same_head : {f g : ℕ} {ts us : TermTrees} → apply f ts ≡ apply g us → f ≡ g
same_head e = cc

module _ (theory : Theory) (e : ConditionalEquation) (w : IsSorted theory e) (s : ℕ → TermTree) (f : ℕ) (vs : TermTrees)
    (q : instance s e.left ≡ apply f vs) (fit : IsFit theory f vs) where
  call_sort : HasSort theory no_variables (instance s e.left) w.sort
  call_sort =
      let h : w.head ≡ f = same_head (sym (ap (instance s) w.heads) ∙ q) in
      let l = subst (λ u. HasSort theory w.vars u w.sort) w.heads w.left in
      let k = subst (λ g. OnSome (slice_get theory.operations g) (λ d. (d.result ≡ w.sort) × HaveSorts theory w.vars w.args d.args)) h l in
      let z = on_map (slice_get theory.operations f)
      (on_zip (λ d. (d.result ≡ w.sort) × HaveSorts theory w.vars w.args d.args) (λ d. HaveSorts theory no_variables vs d.args)
      (slice_get theory.operations f) k fit) (λ d p. (p.0.0, p.1)) in
      subst (λ u. HasSort theory no_variables u w.sort) (sym q) z

  pub side_fits : (t : TermTree) (a : ℕ) → HasSort theory w.vars t a → ((x : ℕ) → Occurs x t → Occurs x e.left) →
      HasSort theory no_variables (instance s t) a
  side_fits t a h o = instance_sort theory w.vars s t a h
      (λ x b i d. bound_sort theory w.vars s e.left w.sort w.left call_sort x b (o x i) d)
