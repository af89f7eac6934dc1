-- What the shape of executable data gives.
use Rattle.std.proofs.Common.{ℕ, zero, suc, ◌≡◌, ◌≤◌, ◌<◌, ◌+◌, List, [], ◌∷◌, refl, sym, ap, subst, ◌∙◌, arith, inl, inr, ◌⊎◌, Option}
use Rattle.std.proofs.Common.{Some, length}
use Rattle.std.specs.List.{slice_get}
use Rattle.spec_core.specs.Lists.{Each, OneOf}
use Rattle.spec_core.specs.Terms.{TermTree, TermTrees, variable, apply, no_terms, and_term, width, instance, Occurs, OccursInAny}
use Rattle.spec_core.specs.Theories.{Operation, Premise, premise, ConditionalEquation, Theory, Heads}
use Rattle.spec_core.specs.Sorts.{OnSome, HasSort, HaveSorts, EquationFits, PremiseFits}
use Rattle.spec_core.specs.Constructors.{HeadsNone, IsConstructor}
use Rattle.spec_core.specs.Orthogonality.{HasPatterns, HasNoLooseVariables}
use Rattle.spec_core.specs.Order.{HasOperation, PremisesHaveOperation, Mentions, Decreases}
use Rattle.spec_core.specs.Executable.{IsExecutable}
use Rattle.spec_core.proofs.Definitions.{heads_none}
use Rattle.data_laws.proofs.Sorted.{IsSorted, PremiseHasSort}
use Rattle.spec_core.proofs.Instances.{on_map}
use Rattle.data_laws.proofs.Fit.{on_use}
use Rattle.data_laws.proofs.Narrow.{IsNarrow, AreNarrow, PremiseIsNarrow}
use Rattle.data_laws.proofs.Exists.{Headed, Owes}

headed_one : (theory : Theory) (e : ConditionalEquation) → HasPatterns theory e → Headed e
headed_one theory e h s f vs q = (h.1, h.2 ∙ ap (λ g. apply g h.1) same_head)
  where
    same_head : h.0 ≡ f
    same_head = let p : apply h.0 _ ≡ apply f vs = sym (ap (instance s) h.2) ∙ q in cc

all_headed : (theory : Theory) (es : List ConditionalEquation) → Each (HasPatterns theory) es → Each Headed es
all_headed theory [] h = tt
all_headed theory (e ∷ es) h = (headed_one theory e h.0, all_headed theory es h.1)

asked_sorts : (theory : Theory) (vars : ℕ → Option ℕ) (ps : List Premise) → Each (PremiseFits theory vars) ps →
    Each (PremiseHasSort theory vars) ps
asked_sorts theory vars [] h = tt
asked_sorts theory vars (premise a b ∷ ps) h = (h.0, asked_sorts theory vars ps h.1)

all_sorted : (theory : Theory) (es : List ConditionalEquation) → Each (EquationFits theory) es → Each (HasPatterns theory) es →
    Each (IsSorted theory) es
all_sorted theory [] f p = tt
all_sorted theory (e ∷ es) f p = (
  record {
    vars = slice_get e.sorts;
    sort = f.0.sides.0;
    head = p.0.0;
    args = p.0.1;
    heads = p.0.2;
    left = f.0.sides.1;
    right =
        f.0.sides.2;
    asked = asked_sorts theory (slice_get e.sorts) e.premises f.0.premises;
  },
  all_sorted theory es f.1 p.1,
)

-- the numbers of arguments of all operations together
abbrev pub widest : List Operation → ℕ
widest [] = 0
widest (d ∷ ds) = length d.args + widest ds

bounded : (ds : List Operation) (f : ℕ) (P : Operation → Type 0) → OnSome (slice_get ds f) P →
    OnSome (slice_get ds f) (λ d. P d × (length d.args ≤ widest ds))
bounded [] f P h = h
bounded (d ∷ ds) zero P h = (h, omega arith)
bounded (d ∷ ds) (suc f) P h = on_map (slice_get ds f) (bounded ds f P h) (λ d' p. (p.0, omega (arith, p.1)))

below_length : (ds : List Operation) (f : ℕ) (P : Operation → Type 0) → OnSome (slice_get ds f) P → f < length ds
below_length [] f P h = absurd h
below_length (d ∷ ds) zero P h = omega arith
below_length (d ∷ ds) (suc f) P h = let r = below_length ds f P h in omega (arith, r)

module _ (theory : Theory) (vars : ℕ → Option ℕ) where
  pub as_many : (ts : TermTrees) (sorts : List ℕ) → HaveSorts theory vars ts sorts → width ts ≡ length sorts
  as_many no_terms [] h = refl
  as_many no_terms (c ∷ sorts) h = absurd h
  as_many (and_term t ts) [] h = absurd h
  as_many (and_term t ts) (c ∷ sorts) h = ap suc (as_many ts sorts h.1)

  mutual
    narrow_term : (t : TermTree) (sort : ℕ) → HasSort theory vars t sort → IsNarrow (widest theory.operations) t
    narrow_term (variable x) sort h = tt
    narrow_term (apply f ts) sort h =
        on_use (slice_get theory.operations f) (bounded theory.operations f (λ d. (d.result ≡ sort) × HaveSorts theory vars ts d.args) h)
        (λ d p. let n = as_many ts d.args p.0.1 in let l = p.1 in (omega (arith, n, l), narrow_terms ts d.args p.0.1))

    narrow_terms : (ts : TermTrees) (sorts : List ℕ) → HaveSorts theory vars ts sorts → AreNarrow (widest theory.operations) ts
    narrow_terms no_terms sorts h = tt
    narrow_terms (and_term t ts) [] h = absurd h
    narrow_terms (and_term t ts) (c ∷ sorts) h = (narrow_term t c h.0, narrow_terms ts sorts h.1)

  narrow_premises : (ps : List Premise) → Each (PremiseFits theory vars) ps → Each (PremiseIsNarrow (widest theory.operations)) ps
  narrow_premises [] h = tt
  narrow_premises (premise a b ∷ ps) h = ((narrow_term a h.0.0 h.0.1, narrow_term b h.0.0 h.0.2), narrow_premises ps h.1)

  -- each variable of a term that has a sort is declared
  mutual
    pub declared : (t : TermTree) (sort : ℕ) → HasSort theory vars t sort → (x : ℕ) → Occurs x t → (a : ℕ) × (vars x ≡ Some a)
    declared (variable y) sort h x o = (sort, ap vars o ∙ h)
    declared (apply f ts) sort h x o = on_use (slice_get theory.operations f) h (λ d p. all_declared ts d.args p.1 x o)

    all_declared : (ts : TermTrees) (sorts : List ℕ) → HaveSorts theory vars ts sorts → (x : ℕ) → OccursInAny x ts →
        (a : ℕ) × (vars x ≡ Some a)
    all_declared no_terms sorts h x o = absurd o
    all_declared (and_term t ts) [] h x o = absurd h
    all_declared (and_term t ts) (c ∷ sorts) h x (inl o) = declared t c h.0 x o
    all_declared (and_term t ts) (c ∷ sorts) h x (inr o) = all_declared ts sorts h.1 x o

module _ (theory : Theory) (ex : IsExecutable theory) where
  pub headed_of : Each Headed theory.equations
  headed_of = all_headed theory theory.equations ex.orthogonal.patterns

  pub bare_of : (g : ℕ) → IsConstructor theory g → HeadsNone theory g
  bare_of g c = heads_none theory ex g c

  pub sorted_of : Each (IsSorted theory) theory.equations
  sorted_of = all_sorted theory theory.equations ex.fits.equations ex.orthogonal.patterns

  mentions_below : (es : List ConditionalEquation) (f g : ℕ) → Each (EquationFits theory) es →
      OneOf (λ e. Heads f e × (HasOperation g e.left ⊎ HasOperation g e.right ⊎ PremisesHaveOperation g e.premises)) es →
      f < length theory.operations
  mentions_below [] f g h m = absurd m
  mentions_below (e ∷ es) f g h (inr m) = mentions_below es f g h.1 m
  mentions_below (e ∷ es) f g h (inl m) =
      let l = subst (λ t. HasSort theory (slice_get e.sorts) t h.0.sides.0) m.0.1 h.0.sides.1 in
      below_length theory.operations f (λ d. (d.result ≡ h.0.sides.0) × HaveSorts theory (slice_get e.sorts) m.0.0 d.args) l

  pub numbered_of : (f g : ℕ) → Mentions theory f g → f < length theory.operations
  numbered_of f g m = mentions_below theory.equations f g ex.fits.equations m

  all_owe : (es : List ConditionalEquation) → Each (EquationFits theory) es → Each (IsSorted theory) es → Each HasNoLooseVariables es →
      Each Headed es → Each (λ e. (f : ℕ) (ps : TermTrees) → e.left ≡ apply f ps → Decreases theory f ps e) es →
      Each (Owes theory (widest theory.operations)) es
  all_owe [] f s t h d = tt
  all_owe (e ∷ es) f s t h d = (
    record {
      sorted = s.0;
      tight = t.0;
      narrow = (
        narrow_term theory (slice_get e.sorts) e.right f.0.sides.0 f.0.sides.2,
        narrow_premises theory (slice_get e.sorts) e.premises f.0.premises,
      );
      headed = h.0;
      decreases = d.0;
    },
    all_owe es f.1 s.1 t.1 h.1 d.1,
  )

  pub owed_of : Each (Owes theory (widest theory.operations)) theory.equations
  owed_of = all_owe theory.equations ex.fits.equations sorted_of ex.orthogonal.closed headed_of ex.decreasing
