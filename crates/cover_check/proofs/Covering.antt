-- An operation is covered where its rows cover different variables, and partial where they leave some pattern uncovered.
use Rattle.std.proofs.Common.{ℕ, ◌≡◌, Bool, true, false, if◌then◌else◌, List, [], ◌∷◌, ◌++◌, Option, Some, None, Result, Ok, Err, IfOk, MatchOption, refl, sym, ap, subst, ◌∙◌, inl, inr}
use Rattle.std.specs.List.{slice_get}
use Rattle.std.proofs.lemmas.Option.{same_Some}
use Rattle.spec_core.specs.Lists.{Each, OneOf, IsOneOf}
use Rattle.spec_core.specs.Terms.{TermTree, TermTrees, variable, apply, no_terms, and_term, instance, instances, Occurs, OccursInAny}
use Rattle.spec_core.specs.Theories.{Operation, ConditionalEquation, Theory}
use Rattle.spec_core.specs.Sorts.{OnSome, HasSort, HaveSorts, EquationFits, FitsData, no_variables}
use Rattle.spec_core.specs.Constructors.{IsConstructor, AreConstructed}
use Rattle.spec_core.specs.Orthogonality.{IsLinear, HasPatterns, IsOrthogonal}
use Rattle.spec_core.specs.Cover.{IsGroup, IsCoveredCall, IsPartial}
use Rattle.spec_core.proofs.Instances.{bound_sort}
use Rattle.equation_shapes.specs.Shapes.{AreOfShape}
use Rattle.equation_shapes.proofs.Linear.{Tells, occurs, filled, are_of_shape}
use Rattle.cover_search.proofs.Options.{on_some}
use Rattle.cover_search.specs.Heads.{headed, is_headed}
use Rattle.cover_search.specs.Makers.{AreMade}
use Rattle.cover_search.specs.Sorts.{IsInhabited}
use Rattle.cover_search.specs.Search.{variables, IsCovered, IsUncovered, arguments_of}
use Rattle.cover_search.specs.declared.arguments.Arguments.{Arguments}
use Rattle.cover_search.proofs.Heading.{not_headed}
use Rattle.cover_search.proofs.Searching.{variables_sorts, variables_made, variables_shape, some_uncovered}
use Rattle.cover_groups.specs.Groups.{HasFullGroup}
use Rattle.cover_groups.proofs.Fullness.{full_over, one_sort}
use Rattle.cover_check.specs.Cases.{IsCoveredOperation, AreRows}
use Rattle.cover_check.specs.Rows.{IsRowAdded}
use Rattle.cover_check.proofs.Occurring.{group_occurs}

abbrev only : {A : Type 0} → Tells A → Option ℕ → Option ℕ
only (inl a) v = v
only (inr n) v = None

only_first : {A : Type 0} (d : Tells A) (v : Option ℕ) → A → only d v ≡ v
only_first (inl a) v h = refl
only_first (inr n) v h = absurd (n h)

only_some : {A : Type 0} (d : Tells A) (v : Option ℕ) (a : ℕ) → only d v ≡ Some a → A × (v ≡ Some a)
only_some (inl h) v a e = (h, e)
only_some (inr n) v a e = absurd (cc)

each_one : {A : Type 0} (P : A → Type 0) (Q : A → Type 0) (xs : List A) → Each P xs → OneOf Q xs →
    (x : A) × P x × Q x × OneOf (λ y. x ≡ y) xs
each_one P Q [] h o = absurd o
each_one P Q (x ∷ xs) h (inl q) = (x, h.0, q, inl refl)
each_one P Q (x ∷ xs) h (inr o) = let r = each_one P Q xs h.1 o in (r.0, r.1, r.2, inr r.3)

module _ (theory : Theory) (f : ℕ) where
  rows_from : (all es : List ConditionalEquation) (rows : List TermTrees) → ((e : ConditionalEquation) → IsOneOf e es → IsOneOf e all) →
      AreRows theory f es rows →
      Each (λ r. (e : ConditionalEquation) × IsOneOf e all × (e.left ≡ apply f r) × HasFullGroup theory e) rows
  rows_from all [] rows m h =
      subst (Each (λ r. (e : ConditionalEquation) × IsOneOf e all × (e.left ≡ apply f r) × HasFullGroup theory e)) (sym h) tt
  rows_from all (e ∷ es) rows m (inl h) =
      subst (Each (λ r. (e : ConditionalEquation) × IsOneOf e all × (e.left ≡ apply f r) × HasFullGroup theory e)) (sym h.3.1)
      ((e, m e (inl refl), h.1, h.2), rows_from all es h.3.0 (λ d o. m d (inr o)) h.3.2)
  rows_from all (e ∷ es) rows m (inr h) = rows_from all es rows (λ d o. m d (inr o)) h.1

  among : (r : TermTrees) (e : ConditionalEquation) (es : List ConditionalEquation) (rows : List TermTrees) → AreRows theory f es rows →
      IsOneOf e es → e.left ≡ apply f r → HasFullGroup theory e → OneOf (λ q. q ≡ r) rows
  among r e [] rows h o l g = absurd o
  among r e (d ∷ es) rows (inl h) (inl k) l g =
      let m : apply f r ≡ apply f h.0 = sym l ∙ ap (λ x. x.left) k ∙ h.1 in
      let same : h.0 ≡ r = cc in
      subst (OneOf (λ q. q ≡ r)) (sym h.3.1) (inl same)
  among r e (d ∷ es) rows (inl h) (inr o) l g = subst (OneOf (λ q. q ≡ r)) (sym h.3.1) (inr (among r e es h.3.0 h.3.2 o l g))
  among r e (d ∷ es) rows (inr h) (inl k) l g = absurd (h.0 r (sym (ap (λ x. x.left) k) ∙ l) (subst (HasFullGroup theory) k g))
  among r e (d ∷ es) rows (inr h) (inr o) l g = among r e es rows h.1 o l g

  -- the rows of the equations of an operation are those of all equations
  pub rows_all : (es : List ConditionalEquation) (rows : List TermTrees) → AreRows theory f (headed f es) rows → AreRows theory f es rows
  rows_all [] rows h = h
  rows_all (e ∷ es) rows h = chosen (is_headed f e) refl (rows_all es) h
    where
      chosen : (b : Bool) → is_headed f e ≡ b → ((rest : List TermTrees) → AreRows theory f (headed f es) rest → AreRows theory f es rest) →
          AreRows theory f (if b then e ∷ headed f es else headed f es) rows → AreRows theory f (e ∷ es) rows
      chosen true is others (inl k) = inl (k.0, k.1, k.2, (k.3.0, k.3.1, others k.3.0 k.3.2))
      chosen true is others (inr k) = inr (k.0, others rows k.1)
      chosen false is others k = inr ((λ r left full. not_headed f e is (r, left)), others rows k)

  -- one more row
  pub rows_more : (es : List ConditionalEquation) (e : ConditionalEquation) (rows new : List TermTrees) → AreRows theory f es rows →
      IsRowAdded theory f e rows new → AreRows theory f (es ++ e ∷ []) new
  rows_more [] e rows new h (inl a) = inl (a.0, a.1, a.2, ([], a.3 ∙ ap (λ xs. xs ++ a.0 ∷ []) h, refl))
  rows_more [] e rows new h (inr a) = inr (a.0, a.1 ∙ h)
  rows_more (d ∷ es) e rows new (inl h) (inl a) = inl (h.0, h.1, h.2, (h.3.0 ++ a.0 ∷ [], a.3 ∙ ap (λ xs. xs ++ a.0 ∷ []) h.3.1, rows_more es e h.3.0 (h.3.0 ++ a.0 ∷ []) h.3.2 (inl (a.0, a.1, a.2, refl))))
  rows_more (d ∷ es) e rows new (inl h) (inr a) =
      inl (h.0, h.1, h.2, (h.3.0, a.1 ∙ h.3.1, rows_more es e h.3.0 h.3.0 h.3.2 (inr (a.0, refl))))
  rows_more (d ∷ es) e rows new (inr h) a = inr (h.0, rows_more es e rows new h.1 a)

module _ (theory : Theory) where
  -- a variable of a well sorted term has a sort
  mutual
    some_sort : (vars : ℕ → Option ℕ) (t : TermTree) (s x : ℕ) → HasSort theory vars t s → Occurs x t → (a : ℕ) × (vars x ≡ Some a)
    some_sort vars (variable y) s x h o = (s, ap vars o ∙ h)
    some_sort vars (apply g ts) s x h o = let d = on_some (slice_get theory.operations g) (λ d. (d.result ≡ s) × HaveSorts theory vars ts d.args) h in some_sort_of vars ts d.0.args x d.2.1 o

    some_sort_of : (vars : ℕ → Option ℕ) (ts : TermTrees) (sorts : List ℕ) (x : ℕ) → HaveSorts theory vars ts sorts → OccursInAny x ts →
        (a : ℕ) × (vars x ≡ Some a)
    some_sort_of vars no_terms sorts x h o = absurd o
    some_sort_of vars (and_term t ts) [] x h o = absurd h
    some_sort_of vars (and_term t ts) (s ∷ sorts) x h (inl o) = some_sort vars t s x h.0 o
    some_sort_of vars (and_term t ts) (s ∷ sorts) x h (inr o) = some_sort_of vars ts sorts x h.1 o

  right_sort : (vars : ℕ → Option ℕ) (b : ℕ → TermTree) (t : TermTree) (s x a : ℕ) → HasSort theory vars t s →
      HasSort theory no_variables (instance b t) s → Occurs x t → HasSort theory no_variables (b x) a → vars x ≡ Some a
  right_sort vars b t s x a h k o g =
      let r = some_sort vars t s x h o in
      r.1 ∙ ap Some (one_sort theory no_variables (b x) r.0 a (bound_sort theory vars b t s h k x r.0 o r.1) g)

  module _ (f : ℕ) (d : Operation) (declared : slice_get theory.operations f ≡ Some d) (fits : FitsData theory) (orthogonal : IsOrthogonal theory)
      (rows : List TermTrees) (are_rows : AreRows theory f theory.equations rows) where
    call_sort : (vs : TermTrees) → HaveSorts theory no_variables vs d.args → HasSort theory no_variables (apply f vs) d.result
    call_sort vs h = subst (λ o. OnSome o (λ x. (x.result ≡ d.result) × HaveSorts theory no_variables vs x.args)) (sym declared) (refl, h)

    -- the sort of a left side that f heads is f's
    left_sort : (e : ConditionalEquation) (r : TermTrees) → EquationFits theory e → e.left ≡ apply f r →
        HasSort theory (slice_get e.sorts) e.left d.result
    left_sort e r h l =
        let k : HasSort theory (slice_get e.sorts) (apply f r) h.sides.0 = subst (λ t. HasSort theory (slice_get e.sorts) t h.sides.0) l h.sides.1 in
        let x = on_some (slice_get theory.operations f) (λ x. (x.result ≡ h.sides.0) × HaveSorts theory (slice_get e.sorts) r x.args) k in
        let same : x.0 ≡ d = same_Some _ _ (sym x.1 ∙ declared) in
        subst (HasSort theory (slice_get e.sorts) e.left) (sym x.2.0 ∙ ap (λ y. y.result) same) h.sides.1

    lefts : (e : ConditionalEquation) (es : List ConditionalEquation) → IsOneOf e es → OneOf (λ y. y.left ≡ e.left) es
    lefts e [] o = absurd o
    lefts e (y ∷ ys) (inl q) = inl (ap (λ z. z.left) (sym q))
    lefts e (y ∷ ys) (inr o) = inr (lefts e ys o)

    call_covered : (e : ConditionalEquation) (r vs : TermTrees) → IsOneOf e theory.equations → EquationFits theory e → IsLinear e.left →
        e.left ≡ apply f r → HasFullGroup theory e → HaveSorts theory no_variables vs d.args → AreOfShape r vs →
        IsCoveredCall theory (apply f vs)
    call_covered e r vs o ef lin l full hv h =
        let s = filled (apply f r) (apply f vs) (subst IsLinear l lin) (refl, h) in
        let m : instance s.0 e.left ≡ apply f vs = ap (instance s.0) l ∙ s.1 in
        record {
          left = e.left;
          equation = lefts e theory.equations o;
          bound = s.0;
          vars = λ x. only (occurs x e.left) (slice_get e.sorts x);
          lists = full.lists;
          matches = m;
          sorts = λ x a v. let k = only_some (occurs x e.left) (slice_get e.sorts x) a v in
              bound_sort theory (slice_get e.sorts) s.0 e.left d.result (left_sort e r ef l) (subst (λ t. HasSort theory no_variables t d.result) (sym m) (call_sort vs hv)) x a k.0 k.1;
          group = full.group;
          full = full_over theory (slice_get e.sorts) (λ x. only (occurs x e.left) (slice_get e.sorts x)) full.full
              (λ ps i x a j v. only_first (occurs x e.left) (slice_get e.sorts x) (group_occurs theory e.left orthogonal.closed full.lists full.group ps i x j) ∙ v);
        }

    zipped : (es : List ConditionalEquation) → Each (EquationFits theory) es → Each (λ e. IsLinear e.left) es →
        Each (HasPatterns theory) es → Each (λ e. EquationFits theory e × IsLinear e.left × HasPatterns theory e) es
    zipped [] h k l = tt
    zipped (e ∷ es) h k l = ((h.0, k.0, l.0), zipped es h.1 k.1 l.1)

    facts : Each (λ e. EquationFits theory e × IsLinear e.left × HasPatterns theory e) theory.equations
    facts = zipped theory.equations fits.equations orthogonal.linear orthogonal.patterns

    -- where different variables are covered, each call is
    pub covers : IsCovered theory rows d.args (variables d.args) → (vs : TermTrees) → HaveSorts theory no_variables vs d.args →
        AreConstructed theory vs → IsCoveredCall theory (apply f vs)
    covers found vs hv c =
        let o = found vs hv c (variables_shape theory vs d.args hv) in
        let r = each_one (λ r. (e : ConditionalEquation) × IsOneOf e theory.equations × (e.left ≡ apply f r) × HasFullGroup theory e) (λ r. AreOfShape r vs) rows (rows_from theory f theory.equations theory.equations rows (λ e o. o) are_rows) o in
        let e = r.1.0 in
        let k = at_one theory.equations facts r.1.1 in
        call_covered e r.0 vs r.1.1 k.0 k.1 r.1.2 r.1.3 hv r.2
      where
        at_one : {e : ConditionalEquation} (es : List ConditionalEquation) →
            Each (λ e. EquationFits theory e × IsLinear e.left × HasPatterns theory e) es → IsOneOf e es →
            EquationFits theory e × IsLinear e.left × HasPatterns theory e
        at_one [] h o = absurd o
        at_one (y ∷ ys) h (inl q) = subst (λ e. EquationFits theory e × IsLinear e.left × HasPatterns theory e) (sym q) h.0
        at_one (y ∷ ys) h (inr o) = at_one ys h.1 o

    row_of : (r vs : TermTrees) (rs : List TermTrees) → AreOfShape r vs → OneOf (λ q. q ≡ r) rs → OneOf (λ q. AreOfShape q vs) rs
    row_of r vs [] h o = absurd o
    row_of r vs (q ∷ qs) h (inl e) = inl (subst (λ x. AreOfShape x vs) (sym e) h)
    row_of r vs (q ∷ qs) h (inr o) = inr (row_of r vs qs h o)

    -- a covered call is of a row's shape
    covered_row : (vs : TermTrees) → HaveSorts theory no_variables vs d.args → IsCoveredCall theory (apply f vs) →
        OneOf (λ r. AreOfShape r vs) rows
    covered_row vs hv c =
        let e = each_one (λ e. EquationFits theory e × IsLinear e.left × HasPatterns theory e) (λ e. e.left ≡ c.left) theory.equations facts c.equation in
        let p = e.1.2 in
        let m : instance c.bound e.0.left ≡ apply f vs = ap (instance c.bound) e.2 ∙ c.matches in
        let head : apply p.0 (instances c.bound p.1) ≡ apply f vs = ap (instance c.bound) (sym p.2) ∙ m in
        let same : p.0 ≡ f = cc in
        let args : instances c.bound p.1 ≡ vs = cc in
        let l : e.0.left ≡ apply f p.1 = p.2 ∙ ap (λ g. apply g p.1) same in
        let group : IsGroup theory e.0.left c.lists = subst (λ t. IsGroup theory t c.lists) (sym e.2) c.group in
        let full : HasFullGroup theory e.0 = record {
          lists = c.lists;
          group = group;
          full = full_over theory c.vars (slice_get e.0.sorts) c.full
              (λ ps i x a j v. right_sort (slice_get e.0.sorts) c.bound e.0.left d.result x a (left_sort e.0 p.1 e.1.0 l)
              (subst (λ t. HasSort theory no_variables t d.result) (sym m) (call_sort vs hv))
              (group_occurs theory e.0.left orthogonal.closed c.lists group ps i x j) (c.sorts x a v));
        } in
        row_of p.1 vs rows (subst (AreOfShape p.1) args (are_of_shape c.bound p.1)) (among theory f p.1 e.0 theory.equations rows are_rows e.3 l full)

    -- where some pattern isn't, the operation is partial
    pub uncovers : (q : TermTrees) → IsUncovered theory rows d.args q → (IsConstructor theory f → ⊥) → IsPartial theory f
    uncovers q u defined =
        let r = some_uncovered theory rows q d.args u in
        record {
          defined = defined;
          arguments = r.0;
          sorts = subst (λ o. OnSome o (λ d. HaveSorts theory no_variables r.0 d.args)) (sym declared) r.1;
          constructed = r.2;
          uncovered = λ c. r.3 (covered_row r.0 r.1 c);
        }

-- what an answer of the search says
pub answers : (theory : Theory) (f : ℕ) (d : Operation) → slice_get theory.operations f ≡ Some d → FitsData theory → IsOrthogonal theory →
    (rows : List TermTrees) → AreRows theory f theory.equations rows → (IsConstructor theory f → ⊥) → Each (IsInhabited theory) d.args →
    (start : TermTrees) → start ≡ variables d.args → {E : Type 0} (r : Result (Option Arguments) E) →
    IfOk r (λ found. MatchOption found ((sorts : List ℕ) → HaveSorts theory Some start sorts → IsCovered theory rows sorts start) (λ _. Unit {0})) →
    IfOk r (λ found. MatchOption found (Unit {0}) (λ q. (sorts : List ℕ) → HaveSorts theory Some start sorts → AreMade theory start →
    IsUncovered theory rows sorts (arguments_of q))) →
    IfOk r (λ found. MatchOption found (IsCoveredOperation theory f d) (λ _. Unit {0})) × IfOk r (λ found. MatchOption found (Unit {0}) (λ _. IsPartial theory f))
answers theory f d declared fits o rows ar n i start e (Ok None) h k =
    let all : IsCovered theory rows d.args (variables d.args) = subst (IsCovered theory rows d.args) e (h d.args (subst (λ s. HaveSorts theory Some s d.args) (sym e) (variables_sorts theory d.args))) in
    ((λ vs no hv c. covers theory f d declared fits o rows ar all vs hv c), tt)
answers theory f d declared fits o rows ar n i start e (Ok (Some q)) h k =
    let u = k d.args (subst (λ s. HaveSorts theory Some s d.args) (sym e) (variables_sorts theory d.args)) (subst (AreMade theory) (sym e) (variables_made theory d.args i)) in
    (tt, uncovers theory f d declared fits o rows ar (arguments_of q) u n)
answers theory f d declared fits o rows ar n i start e (Err m) h k = (tt, tt)
