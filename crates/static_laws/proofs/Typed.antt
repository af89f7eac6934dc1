-- Terms and equations over operations that have sorts, and what becomes of them where operations and sorts get other numbers.
use Rattle.std.proofs.Common.{ℕ, ◌≡◌, ◌∙◌, refl, sym, ap, subst, List, [], ◌∷◌, length, map, Option, Some, None}
use Rattle.std.specs.Prelude.{option_map}
use Rattle.std.specs.List.{slice_get}
use Rattle.std.proofs.lemmas.List.{length-map}
use Rattle.std.proofs.lemmas.Option.{slice_get-map}
use Rattle.spec_core.specs.Lists.{Each}
use Rattle.spec_core.specs.Sorts.{OnSome, HasSort, HaveSorts, HaveOneSort, IsDeclaredSort, PremiseFits, EquationFits}
use Rattle.spec_core.specs.Terms.{TermTree, TermTrees, variable, apply, no_terms, and_term}
use Rattle.spec_core.specs.Theories.{Operation, Premise, premise, ConditionalEquation, Theory}
use Rattle.spec_core.proofs.Lists.{each_implied}

-- the term has this sort, where an operation has these sorts of arguments and this sort
abbrev mutual
  pub HasSortBy : (ℕ → List ℕ → ℕ → Type 0) → (ℕ → Option ℕ) → TermTree → ℕ → Type 0
  HasSortBy D vars (variable x) sort = vars x ≡ Some sort
  HasSortBy D vars (apply f ts) sort = (args : List ℕ) × D f args sort × HaveSortsBy D vars ts args

  pub HaveSortsBy : (ℕ → List ℕ → ℕ → Type 0) → (ℕ → Option ℕ) → TermTrees → List ℕ → Type 0
  HaveSortsBy D vars no_terms [] = Unit {0}
  HaveSortsBy D vars no_terms (s ∷ sorts) = ⊥
  HaveSortsBy D vars (and_term t ts) [] = ⊥
  HaveSortsBy D vars (and_term t ts) (s ∷ sorts) = HasSortBy D vars t s × HaveSortsBy D vars ts sorts

abbrev pub HaveOneSortBy : (ℕ → List ℕ → ℕ → Type 0) → (ℕ → Option ℕ) → TermTree → TermTree → Type 0
HaveOneSortBy D vars a b = (sort : ℕ) × HasSortBy D vars a sort × HasSortBy D vars b sort

abbrev pub PremiseFitsBy : (ℕ → List ℕ → ℕ → Type 0) → (ℕ → Option ℕ) → Premise → Type 0
PremiseFitsBy D vars (premise a b) = HaveOneSortBy D vars a b

-- the same of an equation, where S holds of the sorts
pub record EquationFitsBy (D : ℕ → List ℕ → ℕ → Type 0) (S : ℕ → Type 0) (e : ConditionalEquation) : Type 0 where
  pub one_name_each : length e.names ≡ length e.sorts
  pub sorts : Each S e.sorts
  pub sides : HaveOneSortBy D (slice_get e.sorts) e.left e.right
  pub premises : Each (PremiseFitsBy D (slice_get e.sorts)) e.premises

-- the operation of a theory
abbrev pub IsOperationOf : Theory → ℕ → List ℕ → ℕ → Type 0
IsOperationOf theory f args sort = OnSome (slice_get theory.operations f) (λ d. (d.result ≡ sort) × (d.args ≡ args))

-- over a theory, it is the same

there : {A : Type 0} (o : Option A) {P : A → Type 0} → OnSome o P → (x : A) × (o ≡ Some x) × P x
there None h = absurd h
there (Some x) h = (x, refl, h)

module _ (theory : Theory) (vars : ℕ → Option ℕ) where
  mutual
    pub to-sorts : (t : TermTree) (sort : ℕ) → HasSort theory vars t sort → HasSortBy (IsOperationOf theory) vars t sort
    to-sorts (variable x) sort h = h
    to-sorts (apply f ts) sort h = by-operation (there (slice_get theory.operations f) h) (to-all-sorts ts)
      where
        by-operation : (d : Operation) × (slice_get theory.operations f ≡ Some d) × ((d.result ≡ sort) × HaveSorts theory vars ts d.args) →
            ((sorts : List ℕ) → HaveSorts theory vars ts sorts → HaveSortsBy (IsOperationOf theory) vars ts sorts) → HasSortBy (IsOperationOf theory) vars (apply f ts) sort
        by-operation (d, at, (is, more)) next = (d.args, subst (λ o. OnSome o (λ e. (e.result ≡ sort) × (e.args ≡ d.args))) (sym at) (is, refl), next d.args more)

    to-all-sorts : (ts : TermTrees) (sorts : List ℕ) → HaveSorts theory vars ts sorts → HaveSortsBy (IsOperationOf theory) vars ts sorts
    to-all-sorts no_terms [] h = tt
    to-all-sorts no_terms (s ∷ sorts) h = absurd h
    to-all-sorts (and_term t ts) [] h = absurd h
    to-all-sorts (and_term t ts) (s ∷ sorts) h = (to-sorts t s h.0, to-all-sorts ts sorts h.1)

  mutual
    pub from-sorts : (t : TermTree) (sort : ℕ) → HasSortBy (IsOperationOf theory) vars t sort → HasSort theory vars t sort
    from-sorts (variable x) sort h = h
    from-sorts (apply f ts) sort (args, is, more) = by-operation (there (slice_get theory.operations f) is) (from-all-sorts ts args more)
      where
        by-operation : (d : Operation) × (slice_get theory.operations f ≡ Some d) × ((d.result ≡ sort) × (d.args ≡ args)) → HaveSorts theory vars ts args → HasSort theory vars (apply f ts) sort
        by-operation (d, at, (is, same)) all = subst (λ o. OnSome o (λ e. (e.result ≡ sort) × HaveSorts theory vars ts e.args)) (sym at) (is, subst (λ z. HaveSorts theory vars ts z) (sym same) all)

    from-all-sorts : (ts : TermTrees) (sorts : List ℕ) → HaveSortsBy (IsOperationOf theory) vars ts sorts → HaveSorts theory vars ts sorts
    from-all-sorts no_terms [] h = tt
    from-all-sorts no_terms (s ∷ sorts) h = absurd h
    from-all-sorts (and_term t ts) [] h = absurd h
    from-all-sorts (and_term t ts) (s ∷ sorts) h = (from-sorts t s h.0, from-all-sorts ts sorts h.1)

  to-premises : (ps : List Premise) → Each (PremiseFits theory vars) ps → Each (PremiseFitsBy (IsOperationOf theory) vars) ps
  to-premises [] h = tt
  to-premises (premise a b ∷ ps) ((sort, left, right), more) = ((sort, to-sorts a sort left, to-sorts b sort right), to-premises ps more)

  from-premises : (ps : List Premise) → Each (PremiseFitsBy (IsOperationOf theory) vars) ps → Each (PremiseFits theory vars) ps
  from-premises [] h = tt
  from-premises (premise a b ∷ ps) ((sort, left, right), more) = ((sort, from-sorts a sort left, from-sorts b sort right), from-premises ps more)

one-sort-to : (theory : Theory) (vars : ℕ → Option ℕ) (a b : TermTree) → HaveOneSort theory vars a b → HaveOneSortBy (IsOperationOf theory) vars a b
one-sort-to theory vars a b (sort, left, right) = (sort, to-sorts theory vars a sort left, to-sorts theory vars b sort right)

one-sort-from : (theory : Theory) (vars : ℕ → Option ℕ) (a b : TermTree) → HaveOneSortBy (IsOperationOf theory) vars a b → HaveOneSort theory vars a b
one-sort-from theory vars a b (sort, left, right) = (sort, from-sorts theory vars a sort left, from-sorts theory vars b sort right)

pub to-equation : (theory : Theory) (e : ConditionalEquation) → EquationFits theory e → EquationFitsBy (IsOperationOf theory) (IsDeclaredSort theory) e
to-equation theory e h = record {
  one_name_each = h.one_name_each;
  sorts = h.sorts;
  sides = one-sort-to theory (slice_get e.sorts) e.left e.right h.sides;
  premises = to-premises theory (slice_get e.sorts) e.premises h.premises;
}

pub from-equation : (theory : Theory) (e : ConditionalEquation) → EquationFitsBy (IsOperationOf theory) (IsDeclaredSort theory) e → EquationFits theory e
from-equation theory e h = record {
  one_name_each = h.one_name_each;
  sorts = h.sorts;
  sides = one-sort-from theory (slice_get e.sorts) e.left e.right h.sides;
  premises = from-premises theory (slice_get e.sorts) e.premises h.premises;
}

-- With other numbers of operations and of sorts. A change of terms puts other numbers of operations; and what had sorts has those of the
-- other numbers.
pub record Changes (operation : ℕ → ℕ) (change : TermTree → TermTree) (changes : TermTrees → TermTrees) (on_premise : Premise → Premise) : Type 0 where
  pub at_variable : (x : ℕ) → change (variable x) ≡ variable x
  pub at_operation : (f : ℕ) (ts : TermTrees) → change (apply f ts) ≡ apply (operation f) (changes ts)
  pub at_none : changes no_terms ≡ no_terms
  pub at_more : (t : TermTree) (ts : TermTrees) → changes (and_term t ts) ≡ and_term (change t) (changes ts)
  pub at_premise : (a b : TermTree) → on_premise (premise a b) ≡ premise (change a) (change b)

module _ (operation sort : ℕ → ℕ) (change : TermTree → TermTree) (changes : TermTrees → TermTrees) (on_premise : Premise → Premise) (c : Changes operation change changes on_premise)
    (D E : ℕ → List ℕ → ℕ → Type 0) (kept : (f : ℕ) (args : List ℕ) (s : ℕ) → D f args s → E (operation f) (map sort args) (sort s)) where
  module _ (vars others : ℕ → Option ℕ) (same : (x s : ℕ) → vars x ≡ Some s → others x ≡ Some (sort s)) where
    mutual
      changed-sort : (t : TermTree) (s : ℕ) → HasSortBy D vars t s → HasSortBy E others (change t) (sort s)
      changed-sort (variable x) s h = subst (λ t. HasSortBy E others t (sort s)) (sym (c.at_variable x)) (same x s h)
      changed-sort (apply f ts) s (args, is, more) =
          subst (λ t. HasSortBy E others t (sort s)) (sym (c.at_operation f ts)) (map sort args, kept f args s is, changed-sorts ts args more)

      changed-sorts : (ts : TermTrees) (sorts : List ℕ) → HaveSortsBy D vars ts sorts → HaveSortsBy E others (changes ts) (map sort sorts)
      changed-sorts no_terms [] h = subst (λ ts. HaveSortsBy E others ts []) (sym c.at_none) tt
      changed-sorts no_terms (s ∷ sorts) h = absurd h
      changed-sorts (and_term t ts) [] h = absurd h
      changed-sorts (and_term t ts) (s ∷ sorts) h =
          subst (λ zs. HaveSortsBy E others zs (sort s ∷ map sort sorts)) (sym (c.at_more t ts)) (changed-sort t s h.0, changed-sorts ts sorts h.1)

    changed-premises : (ps : List Premise) → Each (PremiseFitsBy D vars) ps → Each (PremiseFitsBy E others) (map on_premise ps)
    changed-premises [] h = tt
    changed-premises (premise a b ∷ ps) ((s, left, right), more) =
        (subst (λ p. PremiseFitsBy E others p) (sym (c.at_premise a b)) (sort s, changed-sort a s left, changed-sort b s right), changed-premises ps more)

  variable-sorts : (sorts : List ℕ) (x s : ℕ) → slice_get sorts x ≡ Some s → slice_get (map sort sorts) x ≡ Some (sort s)
  variable-sorts sorts x s e = slice_get-map sort sorts x ∙ ap (option_map sort) e

  each-sort : (S R : ℕ → Type 0) → ((s : ℕ) → S s → R (sort s)) → (sorts : List ℕ) → Each S sorts → Each R (map sort sorts)
  each-sort S R h [] g = tt
  each-sort S R h (s ∷ sorts) g = (h s g.0, each-sort S R h sorts g.1)

  one-sort : (sorts : List ℕ) (a b : TermTree) → HaveOneSortBy D (slice_get sorts) a b → HaveOneSortBy E (slice_get (map sort sorts)) (change a) (change b)
  one-sort sorts a b (s, left, right) =
      (sort s, changed-sort (slice_get sorts) (slice_get (map sort sorts)) (variable-sorts sorts) a s left, changed-sort (slice_get sorts) (slice_get (map sort sorts)) (variable-sorts sorts) b s right)

  pub changed-equation : (S R : ℕ → Type 0) → ((s : ℕ) → S s → R (sort s)) → (e : ConditionalEquation) → EquationFitsBy D S e → EquationFitsBy E R (record {
    premises = map on_premise e.premises;
    left = change e.left;
    right = change e.right;
    sorts = map sort e.sorts;
    names = e.names;
    line = e.line;
    column = e.column;
  })
  changed-equation S R moved e h = record {
    one_name_each = h.one_name_each ∙ sym (length-map e.sorts sort);
    sorts = each-sort S R moved e.sorts h.sorts;
    sides = one-sort e.sorts e.left e.right h.sides;
    premises = changed-premises (slice_get e.sorts) (slice_get (map sort e.sorts)) (variable-sorts e.sorts) e.premises h.premises;
  }

-- what holds of fewer operations and sorts holds of more

module _ (D E : ℕ → List ℕ → ℕ → Type 0) (kept : (f : ℕ) (args : List ℕ) (s : ℕ) → D f args s → E f args s) (vars : ℕ → Option ℕ) where
  mutual
    more-sort : (t : TermTree) (s : ℕ) → HasSortBy D vars t s → HasSortBy E vars t s
    more-sort (variable x) s h = h
    more-sort (apply f ts) s (args, is, more) = (args, kept f args s is, more-sorts ts args more)

    more-sorts : (ts : TermTrees) (sorts : List ℕ) → HaveSortsBy D vars ts sorts → HaveSortsBy E vars ts sorts
    more-sorts no_terms [] h = tt
    more-sorts no_terms (s ∷ sorts) h = absurd h
    more-sorts (and_term t ts) [] h = absurd h
    more-sorts (and_term t ts) (s ∷ sorts) h = (more-sort t s h.0, more-sorts ts sorts h.1)

  more-premises : (ps : List Premise) → Each (PremiseFitsBy D vars) ps → Each (PremiseFitsBy E vars) ps
  more-premises [] h = tt
  more-premises (premise a b ∷ ps) ((s, left, right), more) = ((s, more-sort a s left, more-sort b s right), more-premises ps more)

  more-one-sort : (a b : TermTree) → HaveOneSortBy D vars a b → HaveOneSortBy E vars a b
  more-one-sort a b (s, left, right) = (s, more-sort a s left, more-sort b s right)

pub more-fits : (D E : ℕ → List ℕ → ℕ → Type 0) → ((f : ℕ) (args : List ℕ) (s : ℕ) → D f args s → E f args s) → (S R : ℕ → Type 0) → ((s : ℕ) → S s → R s) →
    (e : ConditionalEquation) → EquationFitsBy D S e → EquationFitsBy E R e
more-fits D E kept S R moved e h = record {
  one_name_each = h.one_name_each;
  sorts = each_implied S R e.sorts moved h.sorts;
  sides = more-one-sort D E kept (slice_get e.sorts) e.left e.right h.sides;
  premises = more-premises D E kept (slice_get e.sorts) e.premises h.premises;
}
