-- Equations that are read fit together over what they may speak of.
use Rattle.std.proofs.Common.{ℕ, zero, suc, ◌≡◌, ◌∙◌, ◌<◌, ◌+◌, inl, inr, refl, sym, ap, subst, List, [], ◌∷◌, ◌++◌, length, map, Bool, true, false, not, cond, nat_eq, Option, Some, None, arith}
use Rattle.std.specs.Prelude.{IfSome, option_map, option_to_list}
use Rattle.std.specs.List.{cons_option, filter_map, flat_map, list_any, position_or_len, slice_get}
use Rattle.std.proofs.lemmas.Bool.{eqb-true, eq-eqb}
use Rattle.std.proofs.lemmas.List.{length-map}
use Rattle.std.proofs.lemmas.Option.{none-some, slice_get-map, slice_get_within}
use Rattle.lotos_ast.specs.declared.declaration.Declaration.{Declaration}
use Rattle.lotos_ast.specs.declared.place.Place.{Place}
use Rattle.lotos_ast.specs.declared.refusal.Refusal.{Refusal}
use Rattle.lotos_ast.specs.declared.token.Token.{Token}
use Rattle.lotos_ast.specs.declared.types.Equation.{Equation}
use Rattle.lotos_ast.specs.declared.types.EquationBody.{EquationBody}
use Rattle.lotos_ast.specs.declared.types.ForAll.{ForAll}
use Rattle.lotos_ast.specs.declared.types.SortEquations.{SortEquations}
use Rattle.lotos_ast.specs.ExpressionTrees.{expr_tree}
use Rattle.lotos_ast.specs.ListTrees.{tree_place}
use Rattle.spec_core.specs.declared.items.Sort.{Sort}
use Rattle.spec_core.specs.Lists.{Each, IsOneOf}
use Rattle.spec_core.specs.Sorts.{OnSome, HasSort, HaveSorts, PremiseFits, EquationFits}
use Rattle.spec_core.specs.Terms.{TermTree, TermTrees, variable, apply, no_terms, and_term, instances}
use Rattle.spec_core.specs.Theories.{Operation, Premise, premise, ConditionalEquation, Theory}
use Rattle.spec_core.proofs.Lists.{both_empty, each_append}
use Rattle.spec_core.proofs.Members.{each_from, each_one, from_flat_map, one_parts, one_left, one_right, one_slice_get, from_map}
use Rattle.sort_overloads.specs.Expressions.{expression}
use Rattle.sort_overloads.specs.Listed.{Typed, is_same_name}
use Rattle.sort_overloads.specs.Overloads.{IsWanted}
use Rattle.sort_overloads.specs.Readings.{Context, Declared}
use Rattle.sort_overloads.specs.Refused.{is_sort_known, unknown_sort}
use Rattle.static_equations.specs.Bodies.{AreJudgedOfSort, IsPartJudged, IsBodyJudged}
use Rattle.static_equations.specs.Equations.{listed, equation_unless_refused, IsEquationJudged}
use Rattle.static_equations.specs.Gathered.{Gathers, none, further, IfRead, UnlessRefused, refused_before, judged}
use Rattle.static_equations.specs.Numbered.{occurring, all_occurring, premise_occurring, with_variables, equation_variables, renumbered, premise_renumbered, variables_at, equation_over, equation_of_terms}
use Rattle.static_equations.specs.Premisses.{IsPremissJudged}
use Rattle.static_equations.specs.Variables.{sort_named, declarations, variables_of, all_variables, unknown_sorts, under}
use Rattle.static_laws.specs.Standing.{AgreesWithData}
use Rattle.static_laws.proofs.Judgements.{IsOfItsSort, judged-sort, condition-fits}
use Rattle.static_laws.proofs.Readings.{on-some}
use Rattle.static_laws.proofs.Closed.{each-empty, passed}
use Rattle.static_laws.proofs.Membership.{first-there, in-once, once-from}

-- the sorts and operations of which an expression may speak
abbrev pub read_theory : Context → Theory
read_theory c = record { sorts = c.sorts; operations = c.operations; equations = [] }

abbrev variables_in : Context → ℕ → Option ℕ
variables_in c = slice_get (map (λ v. v.sort) c.variables)

agrees : (c : Context) → AgreesWithData (read_theory c) c (variables_in c)
agrees c = record { sorts = refl; operations = refl; variables = λ x. refl }

-- the sorts of the variables are known
abbrev pub AreKnown : Context → Type 0
AreKnown c = Each (λ (v : Declared). v.sort < length c.sorts) c.variables

known-number : (sorts : List (List ℕ)) (name : List ℕ) → list_any (λ other. is_same_name other name) sorts ≡ true → sort_named sorts name < length sorts
known-number sorts name e = by-first (first-there (λ other. is_same_name other name) sorts e)
  where
    by-first : (x : List ℕ) × (slice_get sorts (sort_named sorts name) ≡ Some x) × (is_same_name x name ≡ true) → sort_named sorts name < length sorts
    by-first (x, at, h) = slice_get_within sorts (sort_named sorts name) x at

under-known : (c : Context) (lists : List ForAll) → AreKnown c → unknown_sorts c (declarations lists) ≡ [] → AreKnown (under c lists)
under-known c lists known unrefused =
    each_append (λ (v : Declared). v.sort < length c.sorts) c.variables (all_variables c.sorts (declarations lists)) known
    (each_from (λ (v : Declared). v.sort < length c.sorts) (all_variables c.sorts (declarations lists)) (λ v h. by-declaration v (from_flat_map (variables_of c.sorts) (declarations lists) v h)))
  where
    by-name : (d : Declaration) → IsOneOf d (declarations lists) → (v : Declared) → (t : Token) × IsOneOf t d.names.items × (v ≡ record { name = t.text; sort = sort_named c.sorts d.sort.text }) → v.sort < length c.sorts
    by-name d i v (t, j, is) =
        subst (λ z. z < length c.sorts) (sym (ap (λ (w : Declared). w.sort) is))
        (known-number c.sorts d.sort.text (passed (is_sort_known c d.sort.text) _ (each-empty (λ (e : Declaration). unknown_sort c e.sort) (declarations lists) d unrefused i)))

    by-declaration : (v : Declared) → (d : Declaration) × IsOneOf d (declarations lists) × IsOneOf v (variables_of c.sorts d) → v.sort < length c.sorts
    by-declaration v (d, i, j) = by-name d i v (from_map (λ (t : Token). record { name = t.text; sort = sort_named c.sorts d.sort.text }) d.names.items v j)

-- Variables by first occurrence

-- there is a variable of this number
abbrev IsThere : List Declared → ℕ → Type 0
IsThere declared x = (v : Declared) × (slice_get declared x ≡ Some v)

variable-there : (declared : List Declared) (x s : ℕ) → slice_get (map (λ v. v.sort) declared) x ≡ Some s → IsThere declared x
variable-there [] x s e = absurd (none-some s e)
variable-there (v ∷ vs) zero s e = (v, refl)
variable-there (v ∷ vs) (suc x) s e = variable-there vs x s e

kept-first : (o : Option Declared) (v : Declared) (rest : List Declared) → o ≡ Some v → cons_option o rest ≡ v ∷ rest
kept-first o v rest e = ap (λ z. cons_option z rest) e

one-behind : (n : ℕ) → 1 + n ≡ suc n
one-behind n = omega arith

-- the place of a variable among those that occur has its declaration
at-place : (declared : List Declared) (numbers : List ℕ) → ((y : ℕ) → IsOneOf y numbers → IsThere declared y) → (x : ℕ) → IsOneOf x numbers →
    slice_get (filter_map (slice_get declared) numbers) (position_or_len (nat_eq x) numbers) ≡ slice_get declared x
at-place declared [] all x h = absurd h
at-place declared (y ∷ ys) all x h = by-variable (all y (inl refl)) (λ i. at-place declared ys (λ z j. all z (inr j)) x i) h
  where
    rest : List Declared
    rest = filter_map (slice_get declared) ys

    by-test : (v : Declared) → slice_get declared y ≡ Some v → (IsOneOf x ys → slice_get rest (position_or_len (nat_eq x) ys) ≡ slice_get declared x) → IsOneOf x (y ∷ ys) → (b : Bool) → nat_eq x y ≡ b →
        slice_get (v ∷ rest) (cond (not b) (1 + position_or_len (nat_eq x) ys) 0) ≡ slice_get declared x
    by-test v at next h true e = sym (ap (slice_get declared) (eqb-true x y e) ∙ at)
    by-test v at next (inl q) false e = absurd (untrue (sym (eq-eqb x y q) ∙ e))
      where
        untrue : true ≡ false → ⊥
        untrue q = cc
    by-test v at next (inr i) false e = ap (slice_get (v ∷ rest)) (one-behind (position_or_len (nat_eq x) ys)) ∙ next i

    by-variable : IsThere declared y → (IsOneOf x ys → slice_get rest (position_or_len (nat_eq x) ys) ≡ slice_get declared x) → IsOneOf x (y ∷ ys) →
        slice_get (filter_map (slice_get declared) (y ∷ ys)) (position_or_len (nat_eq x) (y ∷ ys)) ≡ slice_get declared x
    by-variable (v, at) next h =
        ap (λ zs. slice_get zs (position_or_len (nat_eq x) (y ∷ ys))) (kept-first (slice_get declared y) v rest at) ∙ by-test v at next h (nat_eq x y) refl

pub found-in : (declared : List Declared) (numbers : List ℕ) (v : Declared) → IsOneOf v (variables_at declared numbers) → IsOneOf v declared
found-in declared [] v h = absurd h
found-in declared (y ∷ ys) v h = by-option (slice_get declared y) refl (found-in declared ys v) h
  where
    by-option : (o : Option Declared) → slice_get declared y ≡ o → (IsOneOf v (variables_at declared ys) → IsOneOf v declared) → IsOneOf v (cons_option o (variables_at declared ys)) → IsOneOf v declared
    by-option None e next i = next i
    by-option (Some w) e next (inl q) = subst (λ z. IsOneOf z declared) (sym q) (one_slice_get declared y w e)
    by-option (Some w) e next (inr i) = next i

module _ (c : Context) where
  -- the variables of a term are there
  mutual
    occurring-there : (t : TermTree) (s : ℕ) → HasSort (read_theory c) (variables_in c) t s → (x : ℕ) → IsOneOf x (occurring t) → IsThere c.variables x
    occurring-there (variable y) s h x (inl e) = subst (λ z. IsThere c.variables z) (sym e) (variable-there c.variables y s h)
    occurring-there (variable y) s h x (inr i) = absurd i
    occurring-there (apply f ts) s h x i = by-operation (slice_get c.operations f) h (λ sorts g. all-occurring-there ts sorts g x i)
      where
        by-operation : (o : Option Operation) → OnSome o (λ d. (d.result ≡ s) × HaveSorts (read_theory c) (variables_in c) ts d.args) →
            ((sorts : List ℕ) → HaveSorts (read_theory c) (variables_in c) ts sorts → IsThere c.variables x) → IsThere c.variables x
        by-operation None g next = absurd g
        by-operation (Some d) g next = next d.args g.1

    all-occurring-there : (ts : TermTrees) (sorts : List ℕ) → HaveSorts (read_theory c) (variables_in c) ts sorts → (x : ℕ) → IsOneOf x (all_occurring ts) → IsThere c.variables x
    all-occurring-there no_terms sorts h x i = absurd i
    all-occurring-there (and_term t ts) [] h x i = absurd h
    all-occurring-there (and_term t ts) (s ∷ sorts) h x i = elim (one_parts x (occurring t) (all_occurring ts) i) [
      | inl j ↦ occurring-there t s h.0 x j
      | inr j ↦ all-occurring-there ts sorts h.1 x j
    ]

  premises-there : (ps : List Premise) → Each (PremiseFits (read_theory c) (variables_in c)) ps → (x : ℕ) → IsOneOf x (flat_map premise_occurring ps) → IsThere c.variables x
  premises-there [] h x i = absurd i
  premises-there (premise a b ∷ ps) ((s, left, right), more) x i = elim (one_parts x (occurring a ++ occurring b) (flat_map premise_occurring ps) i) [
    | inl j ↦ elim (one_parts x (occurring a) (occurring b) j) [
      | inl k ↦ occurring-there a s left x k
      | inr k ↦ occurring-there b s right x k
    ]
    | inr j ↦ premises-there ps more x j
  ]

  module _ (numbers : List ℕ) (all : (y : ℕ) → IsOneOf y numbers → IsThere c.variables y) where
    abbrev renamed_variables : ℕ → Option ℕ
    renamed_variables = slice_get (map (λ v. v.sort) (variables_at c.variables numbers))

    renamed-variable : (x s : ℕ) → IsOneOf x numbers → variables_in c x ≡ Some s → renamed_variables (position_or_len (nat_eq x) numbers) ≡ Some s
    renamed-variable x s i h =
        slice_get-map (λ v. v.sort) (variables_at c.variables numbers) (position_or_len (nat_eq x) numbers)
        ∙ ap (option_map (λ v. v.sort)) (at-place c.variables numbers all x i) ∙ sym (slice_get-map (λ v. v.sort) c.variables x) ∙ h

    mutual
      renumbered-sort : (t : TermTree) (s : ℕ) → ((x : ℕ) → IsOneOf x (occurring t) → IsOneOf x numbers) → HasSort (read_theory c) (variables_in c) t s →
          HasSort (read_theory c) renamed_variables (renumbered numbers t) s
      renumbered-sort (variable x) s within h = renamed-variable x s (within x (inl refl)) h
      renumbered-sort (apply f ts) s within h = on-some (slice_get c.operations f) (λ d g. (g.0, renumbered-sorts ts d.args within g.1)) h

      renumbered-sorts : (ts : TermTrees) (sorts : List ℕ) → ((x : ℕ) → IsOneOf x (all_occurring ts) → IsOneOf x numbers) → HaveSorts (read_theory c) (variables_in c) ts sorts →
          HaveSorts (read_theory c) renamed_variables (instances (λ x. variable (position_or_len (nat_eq x) numbers)) ts) sorts
      renumbered-sorts no_terms [] within h = tt
      renumbered-sorts no_terms (s ∷ sorts) within h = absurd h
      renumbered-sorts (and_term t ts) [] within h = absurd h
      renumbered-sorts (and_term t ts) (s ∷ sorts) within h = (
        renumbered-sort t s (λ x i. within x (one_left x (occurring t) (all_occurring ts) i)) h.0,
        renumbered-sorts ts sorts (λ x i. within x (one_right x (occurring t) (all_occurring ts) i)) h.1,
      )

    renumbered-premises : (ps : List Premise) → ((x : ℕ) → IsOneOf x (flat_map premise_occurring ps) → IsOneOf x numbers) → Each (PremiseFits (read_theory c) (variables_in c)) ps →
        Each (PremiseFits (read_theory c) renamed_variables) (map (premise_renumbered numbers) ps)
    renumbered-premises [] within h = tt
    renumbered-premises (premise a b ∷ ps) within ((s, left, right), more) = (
      (
        s,
        renumbered-sort a s (λ x i. within x (one_left x (occurring a ++ occurring b) (flat_map premise_occurring ps) (one_left x (occurring a) (occurring b) i))) left,
        renumbered-sort b s (λ x i. within x (one_left x (occurring a ++ occurring b) (flat_map premise_occurring ps) (one_right x (occurring a) (occurring b) i))) right,
      ),
      renumbered-premises ps (λ x i. within x (one_right x (occurring a ++ occurring b) (flat_map premise_occurring ps) i)) more,
    )

    over-numbers : (known : AreKnown c) (place : Place) (premises : List Premise) (left right : TermTree) (s : ℕ) →
        ((x : ℕ) → IsOneOf x (occurring left) → IsOneOf x numbers) → ((x : ℕ) → IsOneOf x (flat_map premise_occurring premises) → IsOneOf x numbers) → ((x : ℕ) → IsOneOf x (occurring right) → IsOneOf x numbers) →
        Each (PremiseFits (read_theory c) (variables_in c)) premises → HasSort (read_theory c) (variables_in c) left s → HasSort (read_theory c) (variables_in c) right s →
        EquationFits (read_theory c) (equation_over c.variables place numbers premises left right)
    over-numbers known place premises left right s in-left in-premises in-right ps l r = record {
      one_name_each = length-map (variables_at c.variables numbers) (λ v. v.name) ∙ sym (length-map (variables_at c.variables numbers) (λ v. v.sort));
      sorts = each_from (λ n. n < length c.sorts) (map (λ v. v.sort) (variables_at c.variables numbers)) (λ n i. of-variable n (from_map (λ (v : Declared). v.sort) (variables_at c.variables numbers) n i));
      sides = (s, renumbered-sort left s in-left l, renumbered-sort right s in-right r);
      premises = renumbered-premises premises in-premises ps;
    }
      where
        of-variable : (n : ℕ) → (v : Declared) × IsOneOf v (variables_at c.variables numbers) × (n ≡ v.sort) → n < length c.sorts
        of-variable n (v, i, is) = subst (λ z. z < length c.sorts) (sym is) (each_one (λ (w : Declared). w.sort < length c.sorts) c.variables v known (found-in c.variables numbers v i))

  in-variables : (zs : List ℕ) (x : ℕ) → IsOneOf x zs → IsOneOf x (with_variables [] zs)
  in-variables zs x h = by-same (in-once nat_eq (λ y. eq-eqb y y refl) zs x h)
    where
      by-same : (y : ℕ) × IsOneOf y (with_variables [] zs) × (nat_eq x y ≡ true) → IsOneOf x (with_variables [] zs)
      by-same (y, i, s) = subst (λ z. IsOneOf z (with_variables [] zs)) (sym (eqb-true x y s)) i

  terms-fit : (known : AreKnown c) (place : Place) (premises : List Premise) (left right : TermTree) (s : ℕ) → Each (PremiseFits (read_theory c) (variables_in c)) premises →
      HasSort (read_theory c) (variables_in c) left s → HasSort (read_theory c) (variables_in c) right s → EquationFits (read_theory c) (equation_of_terms c.variables place premises left right)
  terms-fit known place premises left right s ps l r =
      over-numbers (equation_variables premises left right) (λ y i. all-there y (once-from nat_eq (ins ++ flat_map premise_occurring premises ++ occurring right) y i)) known place premises left right s
      (λ x i. in-variables (ins ++ flat_map premise_occurring premises ++ occurring right) x (one_left x (ins ++ flat_map premise_occurring premises) (occurring right) (one_left x ins (flat_map premise_occurring premises) i)))
      (λ x i. in-variables (ins ++ flat_map premise_occurring premises ++ occurring right) x (one_left x (ins ++ flat_map premise_occurring premises) (occurring right) (one_right x ins (flat_map premise_occurring premises) i)))
      (λ x i. in-variables (ins ++ flat_map premise_occurring premises ++ occurring right) x (one_right x (ins ++ flat_map premise_occurring premises) (occurring right) i))
      ps l r
    where
      ins : List ℕ
      ins = occurring left

      all-there : (y : ℕ) → IsOneOf y (occurring left ++ flat_map premise_occurring premises ++ occurring right) → IsThere c.variables y
      all-there y i = elim (one_parts y (occurring left ++ flat_map premise_occurring premises) (occurring right) i) [
        | inl j ↦ elim (one_parts y (occurring left) (flat_map premise_occurring premises) j) [
          | inl k ↦ occurring-there left s l y k
          | inr k ↦ premises-there premises ps y k
        ]
        | inr j ↦ occurring-there right s r y j
      ]

-- what is read

pub gathered-each : {A B : Type 0} (P : A → List B → List Refusal → Type 0) (Q : B → Type 0) → ((x : A) (ys : List B) (rs : List Refusal) → P x ys rs → Each Q ys) →
    (xs : List A) (ys : List B) (rs : List Refusal) → Gathers P xs ys rs → Each Q ys
gathered-each P Q h xs ys rs none = tt
gathered-each P Q h xs ys rs (further x others some all r refusals p more) = each_append Q some all (h x some r p) (gathered-each P Q h others all refusals more)

pub read-each : {B : Type 0} (P : Option B → List Refusal → Type 0) (Q : B → Type 0) → ((found : Option B) (rs : List Refusal) → P found rs → IfSome found Q) →
    (ys : List B) (rs : List Refusal) → IfRead P ys rs → Each Q ys
read-each {B = B} P Q h ys rs (found, is, p) = subst (λ zs. Each Q zs) (sym is) (by-option found (h found rs p))
  where
    by-option : (o : Option B) → IfSome o Q → Each Q (option_to_list o)
    by-option None q = tt
    by-option (Some x) q = (q, tt)

pub unless-each : {B : Type 0} (declared : List Refusal) (P : List B → List Refusal → Type 0) (Q : B → Type 0) → ((found : List B) (rs : List Refusal) → declared ≡ [] → P found rs → Each Q found) →
    (found : List B) (rs : List Refusal) → UnlessRefused declared P found rs → Each Q found
unless-each declared P Q h found rs (refused_before r others e) = tt
unless-each declared P Q h found rs (judged some refusals e p) = h some refusals e p

equation-fits : (c : Context) → AreKnown c → (sort : Sort) (e : Equation) (found : Option ConditionalEquation) (rs : List Refusal) → IsEquationJudged c sort e found rs → IfSome found (EquationFits (read_theory c))
equation-fits c known sort e found rs h =
    subst (λ o. IfSome o (EquationFits (read_theory c))) (sym h.equation)
    (by-sides h.left h.right rs
    (judged-sort (read_theory c) c (variables_in c) (agrees c) (expression (expr_tree e.left)) (Some sort) (tree_place (expr_tree e.left)) h.left h.left_refusals h.left_judged)
    (judged-sort (read_theory c) c (variables_in c) (agrees c) (expression (expr_tree e.right)) (Some sort) (tree_place (expr_tree e.right)) h.right h.right_refusals h.right_judged))
  where
    premises-fit : Each (PremiseFits (read_theory c) (variables_in c)) h.premises
    premises-fit =
        gathered-each (λ p. IfRead (IsPremissJudged c p)) (PremiseFits (read_theory c) (variables_in c))
        (λ p ys r. read-each (IsPremissJudged c p) (PremiseFits (read_theory c) (variables_in c)) (λ o q. condition-fits (read_theory c) c (variables_in c) (agrees c) p.left p.right o q) ys r)
        (listed e.premisses) h.premises h.premise_refusals h.premises_judged

    by-sides : (left right : Option Typed) (rs : List Refusal) → IfSome left (λ x. IsWanted (Some sort) x.sort × IsOfItsSort (read_theory c) (variables_in c) x) →
        IfSome right (λ x. IsWanted (Some sort) x.sort × IsOfItsSort (read_theory c) (variables_in c) x) → IfSome (equation_unless_refused c e.place h.premises left right rs) (EquationFits (read_theory c))
    by-sides None right rs l r = tt
    by-sides (Some x) None rs l r = tt
    by-sides (Some x) (Some y) (q ∷ qs) l r = tt
    by-sides (Some x) (Some y) [] l r =
        terms-fit c known e.place h.premises x.term y.term sort.0 premises-fit (subst (λ n. HasSort (read_theory c) (variables_in c) x.term n) (sym l.0) l.1) (subst (λ n. HasSort (read_theory c) (variables_in c) y.term n) (sym r.0) r.1)

part-fits : (c : Context) → AreKnown c → (part : SortEquations) (found : List ConditionalEquation) (rs : List Refusal) → IsPartJudged c part found rs → Each (EquationFits (read_theory c)) found
part-fits c known part =
    unless-each (unknown_sort c part.sort ++ unknown_sorts c (declarations part.variables.items)) (AreJudgedOfSort c part) (EquationFits (read_theory c)) of-sort
  where
    of-sort : (found : List ConditionalEquation) (rs : List Refusal) → unknown_sort c part.sort ++ unknown_sorts c (declarations part.variables.items) ≡ [] → AreJudgedOfSort c part found rs → Each (EquationFits (read_theory c)) found
    of-sort found rs unrefused (sort, is, h) =
        gathered-each (λ e. IfRead (IsEquationJudged (under c part.variables.items) sort e)) (EquationFits (read_theory c))
        (λ e ys r. read-each (IsEquationJudged (under c part.variables.items) sort e) (EquationFits (read_theory c))
        (λ o q. equation-fits (under c part.variables.items) (under-known c part.variables.items known (both_empty (unknown_sort c part.sort) (unknown_sorts c (declarations part.variables.items)) unrefused).1) sort e o q) ys r)
        part.equations.items found rs h

body-fits : (c : Context) → AreKnown c → (body : EquationBody) (found : List ConditionalEquation) (rs : List Refusal) → IsBodyJudged c body found rs → Each (EquationFits (read_theory c)) found
body-fits c known body =
    unless-each (unknown_sorts c (declarations body.variables.items)) (Gathers (IsPartJudged (under c body.variables.items)) body.parts.items) (EquationFits (read_theory c))
    (λ found rs unrefused. gathered-each (IsPartJudged (under c body.variables.items)) (EquationFits (read_theory c)) (part-fits (under c body.variables.items) (under-known c body.variables.items known unrefused)) body.parts.items found rs)

-- equations that are read fit
pub bodies-fit : (c : Context) → AreKnown c → (written : List EquationBody) (found : List ConditionalEquation) (rs : List Refusal) → Gathers (IsBodyJudged c) written found rs → Each (EquationFits (read_theory c)) found
bodies-fit c known = gathered-each (IsBodyJudged c) (EquationFits (read_theory c)) (body-fits c known)
