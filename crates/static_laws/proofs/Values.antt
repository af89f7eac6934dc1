-- Values that are given have their sorts.
use Rattle.std.proofs.Common.{ℕ, suc, ◌≡◌, ◌+◌, List, [], ◌∷◌, length, map, refl, sym, ap, subst, arith, add-one}
use Rattle.std.specs.Prelude.{Option, Some, None, IfSome}
use Rattle.std.specs.List.{enumerate_from}
use Rattle.std.proofs.lemmas.Option.{IfSome_then, same_Some}
use Rattle.lotos_ast.specs.declared.behaviour.Binding.{Binding}
use Rattle.lotos_ast.specs.declared.behaviour.ExitValue.{ExitValue}
use Rattle.lotos_ast.specs.declared.expression.Expr.{Expr}
use Rattle.lotos_ast.specs.declared.refusal.Refusal.{Refusal}
use Rattle.lotos_ast.specs.ExpressionTrees.{expr_tree}
use Rattle.lotos_ast.specs.ListTrees.{tree_place}
use Rattle.spec_core.specs.Code as code
use Rattle.spec_core.specs.Code.{exit_given, exit_any, Variable}
use Rattle.spec_core.specs.Functionality.{ExitsWith, ValuesFit, BindingFits, bound_variables}
use Rattle.spec_core.specs.Lists.{Each}
use Rattle.spec_core.specs.Sorts.{HasSort}
use Rattle.spec_core.specs.Terms.{TermTree}
use Rattle.spec_core.specs.Theories.{Theory}
use Rattle.sort_overloads.specs.Expressions.{expression}
use Rattle.sort_overloads.specs.Refused.{is_sort_known}
use Rattle.static_equations.specs.Variables.{sort_named}
use Rattle.static_readings.specs.Calls.{IsValueRead, sorted, unsorted, IsArgumentRead, fitted, AreValuesRead, IsBindingRead, bound, bound_to}
use Rattle.static_readings.specs.Calls.{variable_of}
use Rattle.static_readings.specs.Declarations.{numbered_from}
use Rattle.static_readings.specs.Offers.{IsExitValueRead, any, value, AreExitValuesRead}
use Rattle.static_readings.specs.ReadsAll.{ReadsAll, none, further, before}
use Rattle.static_readings.specs.Sites.{Site, sort_of}
use Rattle.static_laws.specs.Standing.{AgreesWithData}
use Rattle.static_laws.proofs.Judgements.{judged-sort}
use Rattle.static_laws.proofs.Options.{if-map, if-some, each-read}
use Rattle.static_laws.proofs.CompiledVariables.{sort-of-fits, known-sort}

module _ (theory : Theory) (s : Site) (vars : ℕ → Option ℕ) (agrees : AgreesWithData theory s.context vars) where
  -- a value of `exit`, with its sort
  abbrev IsExitOf : code.ExitValue × ℕ → Type 0
  IsExitOf v = ExitsWith theory vars (v.0 ∷ []) (v.1 ∷ [])

  exit-value-fits : (v : ExitValue) (found : Option (code.ExitValue × ℕ)) (rs : List Refusal) → IsExitValueRead s v found rs →
      IfSome found IsExitOf
  exit-value-fits v found rs (any sort) =
      if-map IsExitOf (λ n. (exit_any n, n)) (sort_of s sort)
      (IfSome_then (sort_of s sort) (sort-of-fits theory s vars agrees sort) (λ n h. (refl, h, tt)))
  exit-value-fits v found rs (value e x refusals h) =
      if-map IsExitOf (λ x. (exit_given x.term, x.sort)) x
      (IfSome_then x (judged-sort theory s.context vars agrees (expression (expr_tree e)) None (tree_place (expr_tree e)) x refusals h)
      (λ y j. (j.1, tt)))

  exits-with : (vs : List (code.ExitValue × ℕ)) → Each IsExitOf vs → ExitsWith theory vars (map (λ v. v.0) vs) (map (λ v. v.1) vs)
  exits-with [] h = tt
  exits-with ((exit_given t, sort) ∷ vs) h = (h.0.0, exits-with vs h.1)
  exits-with ((exit_any other, sort) ∷ vs) h = (h.0.0, h.0.1, exits-with vs h.1)

  pub exit-values-fit : (values : List ExitValue) (found : Option (List (code.ExitValue × ℕ))) (rs : List Refusal) →
      AreExitValuesRead s values found rs → IfSome found (λ vs. ExitsWith theory vars (map (λ v. v.0) vs) (map (λ v. v.1) vs))
  exit-values-fit values found rs h =
      IfSome_then found (each-read IsExitOf exit-value-fits values found rs h) exits-with

  -- a value whose sort is declared
  value-fits : (o : Option ℕ) (e : Expr) (found : Option TermTree) (rs : List Refusal) → IsValueRead s o e found rs →
      IfSome found (λ t. (sort : ℕ) × (o ≡ Some sort) × HasSort theory vars t sort)
  value-fits o e found rs (sorted sort e' x refusals h) =
      if-map (λ t. (n : ℕ) × (Some sort.0 ≡ Some n) × HasSort theory vars t n) (λ x. x.term) x
      (IfSome_then x
      (judged-sort theory s.context vars agrees (expression (expr_tree e')) (Some sort) (tree_place (expr_tree e')) x refusals h)
      (λ y j. (y.sort, ap Some j.0, j.1)))
  value-fits o e found rs (unsorted e') = tt

  argument-fits : (sort : ℕ) (e : Expr) (found : Option TermTree) (rs : List Refusal) → IsArgumentRead s (Some sort) e found rs →
      IfSome found (λ t. (n : ℕ) × (Some sort ≡ Some n) × HasSort theory vars t n)
  argument-fits sort e _ rs (fitted t _ h) = value-fits (Some sort) e t rs h

  values-before : (x : Variable) (xs : List Variable) (y : Option TermTree) (ys : Option (List TermTree)) →
      IfSome y (λ t. (sort : ℕ) × (Some x.sort ≡ Some sort) × HasSort theory vars t sort) → IfSome ys (λ ts. ValuesFit theory vars ts xs) →
      IfSome (before y ys) (λ ts. ValuesFit theory vars ts (x ∷ xs))
  values-before x xs None ys h hs = tt
  values-before x xs (Some t) None h hs = tt
  values-before x xs (Some t) (Some ts) h hs = (subst (λ n. HasSort theory vars t n) (sym (same_Some x.sort h.0 h.1)) h.2, hs)

  pub values-fit : (es : List Expr) (xs : List Variable) (found : Option (List TermTree)) (rs : List Refusal) →
      length es ≡ length xs → AreValuesRead s (map (λ x. Some x.sort) xs) es found rs →
      IfSome found (λ ts. ValuesFit theory vars ts xs)
  values-fit [] [] found rs e none = tt
  values-fit [] (x ∷ xs) found rs e h = absurd (omega (arith, e))
  values-fit (e ∷ es) [] found rs q h = absurd (omega (arith, q))
  values-fit (e ∷ es) (x ∷ xs) found rs q (further p others y ys r refusals h d) =
      values-before x xs y ys (argument-fits x.sort e y r h) (values-fit es xs ys refusals (omega (arith, q)) d)

  -- the bindings of a `let`
  binding-fits : (n : ℕ) (b : Binding) (found : Option code.Binding) (rs : List Refusal) → IsBindingRead s (n, b) found rs →
      IfSome found (λ y. BindingFits theory vars y × (y.variable ≡ record { number = n; sort = sort_named s.context.sorts b.sort.text }))
  binding-fits n b found rs (bound b' t refusals h) =
      if-map (λ y. BindingFits theory vars y × (y.variable ≡ record { number = n; sort = sort_named s.context.sorts b.sort.text }))
      (bound_to s n b) t
      (IfSome_then t (value-fits (sort_of s b.sort) b.value t refusals h)
      (λ u j. let k = if-some (is_sort_known s.context b.sort.text) (sort_named s.context.sorts b.sort.text) j.0 j.1 in
      ((subst (λ m. HasSort theory vars u m) (sym k.1) j.2, known-sort theory s vars agrees b.sort.text k.0), refl)))

  bindings-before : (x : Variable) (xs : List Variable) (y : Option code.Binding) (ys : Option (List code.Binding)) →
      IfSome y (λ b. BindingFits theory vars b × (b.variable ≡ x)) →
      IfSome ys (λ all. Each (BindingFits theory vars) all × (bound_variables all ≡ xs)) →
      IfSome (before y ys) (λ all. Each (BindingFits theory vars) all × (bound_variables all ≡ x ∷ xs))
  bindings-before x xs None ys h hs = tt
  bindings-before x xs (Some b) None h hs = tt
  bindings-before x xs (Some b) (Some all) h hs = ((h.0, hs.0), cc)

  pub bindings-fit : (n : ℕ) (bs : List Binding) (found : Option (List code.Binding)) (rs : List Refusal) →
      ReadsAll (IsBindingRead s) (enumerate_from n bs) found rs →
      IfSome found (λ all. Each (BindingFits theory vars) all × (bound_variables all ≡ numbered_from n (map (variable_of s) bs)))
  bindings-fit n [] found rs none = (tt, refl)
  bindings-fit n (b ∷ bs) found rs (further p others y ys r refusals h d) =
      bindings-before (record { number = n; sort = sort_named s.context.sorts b.sort.text }) (numbered_from (suc n) (map (variable_of s) bs))
      y ys (binding-fits n b y r h)
      (subst (λ m. IfSome ys (λ all. Each (BindingFits theory vars) all × (bound_variables all ≡ numbered_from m (map (variable_of s) bs))))
      (add-one n) (bindings-fit (n + 1) bs ys refusals d))
