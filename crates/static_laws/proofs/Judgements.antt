-- What expressions and conditions are judged to be has its sort.
use Rattle.std.proofs.Common.{ℕ, ◌≡◌, List, [], ◌∷◌, length, refl, sym, ap, subst, ◌∙◌, arith}
use Rattle.std.specs.Prelude.{Option, Some, None, IfSome, Bool, true, ◌&&◌, ◌==◌, codes}
use Rattle.std.specs.List.{slice_get, filter_map, cons_option}
use Rattle.std.proofs.lemmas.Option.{IfSome_then}
use Rattle.lotos_ast.specs.declared.expression.Expr.{Expr}
use Rattle.lotos_ast.specs.declared.place.Place.{Place}
use Rattle.lotos_ast.specs.declared.refusal.Refusal.{Refusal}
use Rattle.lotos_ast.specs.ExpressionTrees.{expr_tree}
use Rattle.lotos_ast.specs.ListTrees.{tree_place}
use Rattle.spec_core.specs.declared.items.Sort.{Sort}
use Rattle.spec_core.specs.Sorts.{OnSome, HasSort, HaveSorts, PremiseFits}
use Rattle.spec_core.specs.Terms.{no_terms, constant}
use Rattle.spec_core.specs.Theories.{Theory, Operation, Premise, premise}
use Rattle.sort_overloads.specs.Expressions.{Expression, expression}
use Rattle.sort_overloads.specs.Indexes.{numbers_of}
use Rattle.sort_overloads.specs.Judged.{IsJudged, read, unread, unknown}
use Rattle.sort_overloads.specs.Listed.{Typed, is_name_of}
use Rattle.sort_overloads.specs.Overloads.{IsWanted}
use Rattle.sort_overloads.specs.Readings.{Context}
use Rattle.static_equations.specs.Equalities.{Sides, sides_of, IsEqualityJudged}
use Rattle.static_equations.specs.Equalities as equalities
use Rattle.static_equations.specs.Premisses.{IsTruthJudged, by_truth, without, IsConditionJudged}
use Rattle.static_equations.specs.Truths.{truth, boolean_constant, is_boolean_constant}
use Rattle.static_laws.specs.Standing.{AgreesWithData}
use Rattle.static_laws.proofs.Options.{if-map, if-passed}
use Rattle.static_laws.proofs.Readings.{reading-sort}

no-arguments : (args : List ℕ) (b : Bool) → ((length args == 0) && b) ≡ true → args ≡ []
no-arguments [] b h = refl
no-arguments (a ∷ args) b h = absurd (grind (arith, h))

first-kept : {B : Type 0} (P : B → Type 0) (o : Option B) (ys : List B) → IfSome o P → IfSome (slice_get ys 0) P →
    IfSome (slice_get (cons_option o ys) 0) P
first-kept P None ys h g = g
first-kept P (Some y) ys h g = h

first-mapped : {A B : Type 0} (P : B → Type 0) (f : A → Option B) → ((x : A) → IfSome (f x) P) → (xs : List A) →
    IfSome (slice_get (filter_map f xs) 0) P
first-mapped P f h [] = tt
first-mapped P f h (x ∷ xs) = first-kept P (f x) (filter_map f xs) (h x) (first-mapped P f h xs)

-- a typed term has its sort
abbrev pub IsOfItsSort : Theory → (ℕ → Option ℕ) → Typed → Type 0
IsOfItsSort theory vars x = HasSort theory vars x.term x.sort

module _ (theory : Theory) (c : Context) (vars : ℕ → Option ℕ) (agrees : AgreesWithData theory c vars) where
  pub judged-sort : (e : Expression) (wanted : Option Sort) (place : Place) (found : Option Typed) (rs : List Refusal) →
      IsJudged c e wanted place found rs → IfSome found (λ x. IsWanted wanted x.sort × IsOfItsSort theory vars x)
  judged-sort e wanted place found rs (read x known only) =
      (only.wanted_sort, reading-sort theory c vars agrees e x.term x.sort only.reading)
  judged-sort e wanted place found rs (unread r known refused) = tt
  judged-sort e wanted place found rs (unknown r others known) = tt

  constant-sort : (f : ℕ) (o : Option Operation) → slice_get c.operations f ≡ o → IfSome (boolean_constant c.sorts f o) (IsOfItsSort theory vars)
  constant-sort f None e = tt
  constant-sort f (Some d) e =
      if-passed (IsOfItsSort theory vars) (is_boolean_constant c.sorts d) (record { term = constant f; sort = d.result })
      (λ h. subst (λ o. OnSome o (λ d'. (d'.result ≡ d.result) × HaveSorts theory vars no_terms d'.args))
      (sym (ap (λ ops. slice_get ops f) (sym agrees.operations) ∙ e)) (
        refl,
        subst (λ args. HaveSorts theory vars no_terms args)
            (sym (no-arguments d.args (is_name_of (codes "Bool") (slice_get c.sorts d.result)) h)) tt,
      ))

  truth-sort : IfSome (truth c) (IsOfItsSort theory vars)
  truth-sort = first-mapped (IsOfItsSort theory vars) (λ f. boolean_constant c.sorts f (slice_get c.operations f))
      (λ f. constant-sort f (slice_get c.operations f) refl) (numbers_of (codes "true") c.operations)

  truth-fits : (e : Expression) (place : Place) (found : Option Premise) (rs : List Refusal) →
      IsTruthJudged c e place found rs → IfSome found (PremiseFits theory vars)
  truth-fits e place found rs (by_truth t sort x refusals is same h) =
      if-map (PremiseFits theory vars) (λ y. premise y.term t.term) x
      (IfSome_then x (judged-sort e (Some sort) place x refusals h)
      (λ y j. (
        t.sort,
        subst (λ n. HasSort theory vars y.term n) (sym j.0 ∙ same) j.1,
        subst (λ o. IfSome o (IsOfItsSort theory vars)) is truth-sort,
      )))
  truth-fits e place found rs (without none) = tt

  equality-fits : (sides : Sides) (found : Option Premise) (rs : List Refusal) →
      IsEqualityJudged c sides found rs → IfSome found (PremiseFits theory vars)
  equality-fits sides found rs (equalities.read x y sort same left right) =
      let a = judged-sort sides.left None sides.left_place (Some x) [] left in
      let b = judged-sort sides.right (Some sort) sides.right_place (Some y) [] right in
      (x.sort, a.1, subst (λ n. HasSort theory vars y.term n) (sym b.0 ∙ same) b.1)
  equality-fits sides found rs (equalities.right_unread x sort refusals same left right) = tt
  equality-fits sides found rs (equalities.left_unread refusals left) = tt

  pub condition-fits : (left : Expr) (right : Option Expr) (found : Option Premise) (rs : List Refusal) →
      IsConditionJudged c left right found rs → IfSome found (PremiseFits theory vars)
  condition-fits left None found rs h = truth-fits (expression (expr_tree left)) (tree_place (expr_tree left)) found rs h
  condition-fits left (Some right) found rs h = equality-fits (sides_of (expr_tree left) (expr_tree right)) found rs h
