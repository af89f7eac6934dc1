-- Evaluation keeps sorts.
use Rattle.std.proofs.Common.{ℕ, ◌≡◌, List, [], ◌∷◌, sym, subst, ◌∙◌, Option}
use Rattle.std.specs.List.{slice_get}
use Rattle.spec_core.specs.Lists.{Each}
use Rattle.spec_core.specs.Terms.{TermTree, TermTrees, apply, instance}
use Rattle.spec_core.specs.Theories.{Premise, premise, ConditionalEquation, Theory}
use Rattle.spec_core.specs.Sorts.{HasSort, HaveSorts, no_variables}
use Rattle.spec_core.specs.Orthogonality.{HasNoLooseVariables}
use Rattle.spec_core.proofs.Instances.{on_both, on_map, bound_sort, instance_sort}
use Rattle.spec_core.specs.Evaluation.{Evaluates, EvaluatesAll, Tries, Asks, called, none, more, final, unlike, like, used, holds, fails}

abbrev pub PremiseHasSort : Theory → (ℕ → Option ℕ) → Premise → Type 0
PremiseHasSort theory vars (premise a b) = (sort : ℕ) × HasSort theory vars a sort × HasSort theory vars b sort

-- both sides of an equation have one sort, over its variables' sorts
pub record IsSorted (theory : Theory) (e : ConditionalEquation) : Type 0 where
  pub vars : ℕ → Option ℕ
  pub sort : ℕ
  pub head : ℕ
  pub args : TermTrees
  pub heads : e.left ≡ apply head args
  pub left : HasSort theory vars e.left sort
  pub right : HasSort theory vars e.right sort
  pub asked : Each (PremiseHasSort theory vars) e.premises

right_sort : {theory : Theory} (e : ConditionalEquation) → HasNoLooseVariables e → IsSorted theory e →
    (s : ℕ → TermTree) (f : ℕ) (vs : TermTrees) → instance s e.left ≡ apply f vs → (sort : ℕ) →
    HasSort theory no_variables (instance s e.left) sort → HasSort theory no_variables (instance s e.right) sort
right_sort {theory} e t w s f vs q sort h =
    let l = subst (λ u. HasSort theory w.vars u w.sort) w.heads w.left in
    let i = subst (λ u. HasSort theory no_variables (instance s u) sort) w.heads h in
    let c : w.sort ≡ sort = on_both (slice_get theory.operations w.head) l i (λ d p q. sym p.0 ∙ q.0) in
    let g = subst (λ b. HasSort theory no_variables (instance s e.left) b) (sym c) h in
    subst (λ b. HasSort theory no_variables (instance s e.right) b) c
    (instance_sort theory w.vars s e.right w.sort w.right
    (λ x a o d. bound_sort theory w.vars s e.left w.sort w.left g x a (t.right x o) d))

module _ (theory : Theory) (tight : Each HasNoLooseVariables theory.equations) (sorted : Each (IsSorted theory) theory.equations) where
  mutual
    -- a value has the sort of its term
    pub keeps_sort : {t v : TermTree} {n : ℕ} → Evaluates theory t v n → (sort : ℕ) → HasSort theory no_variables t sort →
        HasSort theory no_variables v sort
    keeps_sort (called {f} vs n m a b e) sort h =
        keeps_try b tight sorted sort (on_map (slice_get theory.operations f) h (λ d p. (p.0, keep_sorts a d.args p.1)))

    pub keep_sorts : {ts vs : TermTrees} {n : ℕ} → EvaluatesAll theory ts vs n → (sorts : List ℕ) →
        HaveSorts theory no_variables ts sorts → HaveSorts theory no_variables vs sorts
    keep_sorts (none e) sorts h = h
    keep_sorts (more n m a b e) [] h = absurd h
    keep_sorts (more n m a b e) (c ∷ sorts) h = (keeps_sort a c h.0, keep_sorts b sorts h.1)

    keeps_try : {es : List ConditionalEquation} {f : ℕ} {vs : TermTrees} {v : TermTree} {n : ℕ} → Tries theory es f vs v n →
        Each HasNoLooseVariables es → Each (IsSorted theory) es → (sort : ℕ) → HasSort theory no_variables (apply f vs) sort →
        HasSort theory no_variables v sort
    keeps_try (final e k) t w sort h = subst (λ u. HasSort theory no_variables u sort) (sym e) h
    keeps_try (unlike x a) t w sort h = keeps_try a t.1 w.1 sort h
    keeps_try (like {e = e} {f = f} {vs = vs} s q a) t w sort h =
        let l = subst (λ u. HasSort theory no_variables u sort) (sym q) h in
        keeps_ask a t.1 w.1 sort h (right_sort e t.0 w.0 s f vs q sort l)

    keeps_ask : {ps : List Premise} {r : TermTree} {s : ℕ → TermTree} {es : List ConditionalEquation} {f : ℕ} {vs : TermTrees}
        {v : TermTree} {n : ℕ} → Asks theory ps r s es f vs v n → Each HasNoLooseVariables es → Each (IsSorted theory) es → (sort : ℕ) →
        HasSort theory no_variables (apply f vs) sort → HasSort theory no_variables (instance s r) sort →
        HasSort theory no_variables v sort
    keeps_ask (used n a k) t w sort h r = keeps_sort a sort r
    keeps_ask (holds u n m k a b d z) t w sort h r = keeps_ask d t w sort h r
    keeps_ask (fails u x n m k a b ne d z) t w sort h r = keeps_try d t w sort h
