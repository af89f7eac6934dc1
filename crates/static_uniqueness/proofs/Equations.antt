-- Of alike types the same equations are read.
use Rattle.std.proofs.Common.{ℕ, ◌≡◌, ◌∙◌, sym, subst, List, ◌++◌, map, Option, Some, None, Vec, Global}
use Rattle.lotos_ast.specs.declared.declaration.Declaration.{Declaration}
use Rattle.lotos_ast.specs.declared.expression.Expr.{Expr}
use Rattle.lotos_ast.specs.declared.expression.Premiss.{Premiss}
use Rattle.lotos_ast.specs.declared.refusal.Refusal.{Refusal}
use Rattle.lotos_ast.specs.declared.token.Token.{Token}
use Rattle.lotos_ast.specs.declared.types.Equation.{Equation}
use Rattle.lotos_ast.specs.declared.types.EquationBody.{EquationBody}
use Rattle.lotos_ast.specs.declared.types.ForAll.{ForAll}
use Rattle.lotos_ast.specs.declared.types.SortEquations.{SortEquations}
use Rattle.lotos_ast.specs.ExpressionTrees.{expr_tree, optional_right_tree}
use Rattle.lotos_ast.specs.ListTrees.{tree_place}
use Rattle.spec_core.specs.declared.items.Sort.{Sort}
use Rattle.spec_core.specs.Theories.{Premise, ConditionalEquation}
use Rattle.sort_overloads.specs.Expressions.{expression}
use Rattle.sort_overloads.specs.Judged.{IsJudged}
use Rattle.sort_overloads.specs.Listed.{Typed}
use Rattle.sort_overloads.specs.Readings.{Context}
use Rattle.sort_overloads.specs.Refused.{unknown_sort}
use Rattle.static_equations.specs.Bodies.{AreEquationsJudged, AreJudgedOfSort, IsPartJudged, IsBodyJudged}
use Rattle.static_equations.specs.Equalities.{IsEqualityJudged, sides_of}
use Rattle.static_equations.specs.Equations as equations
use Rattle.static_equations.specs.Equations.{IsEquationJudged, IsSideJudged, equation_unless_refused}
use Rattle.static_equations.specs.Gathered.{Gathers, IfRead, UnlessRefused, refused_before, judged}
use Rattle.static_equations.specs.Premisses.{IsPremissJudged, IsTruthJudged, IsConditionJudged}
use Rattle.static_equations.specs.Variables.{sort_named, declarations, variables_of, unknown_sorts, under}
use Rattle.syntax_laws.specs.Alike.{AreAlike, IfThere, HaveAlike, AreDeclarationsAlike, AreVariablesAlike, ArePremissesAlike, AreEquationsAlike, AreSortEquationsAlike, AreEquationBodiesAlike}
use Rattle.static_uniqueness.proofs.Lists.{flat-same, flat-alike, gathers-alike}

-- variables

list-of-alike : (f g : ForAll) → AreVariablesAlike f g → AreAlike AreDeclarationsAlike f.declarations.list.items g.declarations.list.items
list-of-alike f g h = h.list

declarations-alike : (fs gs : List ForAll) → AreAlike AreVariablesAlike fs gs → AreAlike AreDeclarationsAlike (declarations fs) (declarations gs)
declarations-alike fs gs h = flat-alike AreVariablesAlike AreDeclarationsAlike (λ (f : ForAll). f.declarations.list.items) (λ (f : ForAll). f.declarations.list.items) list-of-alike fs gs h

pub variables-of-same : (sorts : List (List ℕ)) (d e : Declaration) → AreDeclarationsAlike d e → variables_of sorts d ≡ variables_of sorts e
variables-of-same sorts d e h =
    let names : d.names.items ≡ e.names.items = h.names in
    let sort : d.sort ≡ e.sort = h.sort in
    λ i. map (λ (n : Token). record { name = n.text; sort = sort_named sorts (sort i).text }) (names i)

pub unknown-sort-same : (c : Context) (d e : Declaration) → AreDeclarationsAlike d e → unknown_sort c d.sort ≡ unknown_sort c e.sort
unknown-sort-same c d e h = let sort : d.sort ≡ e.sort = h.sort in λ i. unknown_sort c (sort i)

unknown-sorts-same : (c : Context) (ds es : List Declaration) → AreAlike AreDeclarationsAlike ds es → unknown_sorts c ds ≡ unknown_sorts c es
unknown-sorts-same c ds es h = flat-same AreDeclarationsAlike (λ (d : Declaration). unknown_sort c d.sort) (λ (d : Declaration). unknown_sort c d.sort) (unknown-sort-same c) ds es h

under-same : (c : Context) (fs gs : List ForAll) → AreAlike AreVariablesAlike fs gs → under c fs ≡ under c gs
under-same c fs gs h =
    let all = flat-same AreDeclarationsAlike (variables_of c.sorts) (variables_of c.sorts) (variables-of-same c.sorts) (declarations fs) (declarations gs) (declarations-alike fs gs h) in
    λ i. record { sorts = c.sorts; operations = c.operations; variables = c.variables ++ all i }

-- conditions

pub condition-same : (c : Context) (l m : Expr) (o p : Option Expr) → expr_tree l ≡ expr_tree m → optional_right_tree o ≡ optional_right_tree p → (found : Option Premise) (rs : List Refusal) →
    IsConditionJudged c l o found rs → IsConditionJudged c m p found rs
condition-same c l m None None e k found rs h = subst (λ t. IsTruthJudged c (expression t) (tree_place t) found rs) e h
condition-same c l m None (Some b) e k found rs h = absurd (cc)
condition-same c l m (Some a) None e k found rs h = absurd (cc)
condition-same c l m (Some a) (Some b) e k found rs h =
    let right : expr_tree a ≡ expr_tree b = cc in
    subst (λ t. IsEqualityJudged c (sides_of t (expr_tree b)) found rs) e (subst (λ t. IsEqualityJudged c (sides_of (expr_tree l) t) found rs) right h)

pub premiss-same : (c : Context) (p q : Premiss) → ArePremissesAlike p q → (found : Option Premise) (rs : List Refusal) → IsPremissJudged c p found rs → IsPremissJudged c q found rs
premiss-same c p q e found rs h =
    let left : expr_tree p.left ≡ expr_tree q.left = cc in
    let right : optional_right_tree p.right ≡ optional_right_tree q.right = cc in
    condition-same c p.left q.left p.right q.right left right found rs h

premisses-listed : (o p : Option (Vec Premiss Global)) → IfThere (HaveAlike ArePremissesAlike) o p → AreAlike ArePremissesAlike (equations.listed o) (equations.listed p)
premisses-listed None None h = tt
premisses-listed None (Some w) h = absurd h
premisses-listed (Some v) None h = absurd h
premisses-listed (Some v) (Some w) h = h

if-read : {B : Type 0} (P Q : Option B → List Refusal → Type 0) → ((found : Option B) (rs : List Refusal) → P found rs → Q found rs) → (all : List B) (rs : List Refusal) → IfRead P all rs → IfRead Q all rs
if-read P Q each all rs h = (h.0, h.1, each h.0 rs h.2)

side-same : (c : Context) (sort : Sort) (a b : Expr) → expr_tree a ≡ expr_tree b → (found : Option Typed) (rs : List Refusal) → IsSideJudged c sort a found rs → IsSideJudged c sort b found rs
side-same c sort a b e found rs h = subst (λ t. IsJudged c (expression t) (Some sort) (tree_place t) found rs) e h

module _ (c : Context) (sort : Sort) where
  equation-same : (e d : Equation) → AreEquationsAlike e d → (found : Option ConditionalEquation) (rs : List Refusal) → IsEquationJudged c sort e found rs → IsEquationJudged c sort d found rs
  equation-same e d k found rs h =
      let place : e.place ≡ d.place = k.place in
      record {
        premises = h.premises;
        left = h.left;
        right = h.right;
        premise_refusals = h.premise_refusals;
        left_refusals = h.left_refusals;
        right_refusals = h.right_refusals;
        premises_judged = gathers-alike ArePremissesAlike (λ p. IfRead (IsPremissJudged c p)) (λ p. IfRead (IsPremissJudged c p)) (λ p q r. if-read (IsPremissJudged c p) (IsPremissJudged c q) (premiss-same c p q r))
            (equations.listed e.premisses) (equations.listed d.premisses) (premisses-listed e.premisses d.premisses k.premisses) h.premises h.premise_refusals h.premises_judged;
        left_judged = side-same c sort e.left d.left k.left h.left h.left_refusals h.left_judged;
        right_judged = side-same c sort e.right d.right k.right h.right h.right_refusals h.right_judged;
        all_refusals = h.all_refusals;
        equation = h.equation ∙ (λ i. equation_unless_refused c (place i) h.premises h.left h.right rs);
      }

  equations-same : (es ds : List Equation) → AreAlike AreEquationsAlike es ds → (found : List ConditionalEquation) (rs : List Refusal) → AreEquationsJudged c sort es found rs → AreEquationsJudged c sort ds found rs
  equations-same es ds k found rs h =
      gathers-alike AreEquationsAlike (λ e. IfRead (IsEquationJudged c sort e)) (λ e. IfRead (IsEquationJudged c sort e)) (λ e d r. if-read (IsEquationJudged c sort e) (IsEquationJudged c sort d) (equation-same e d r))
      es ds k found rs h

unless-refused : {B : Type 0} (before after : List Refusal) (P Q : List B → List Refusal → Type 0) → before ≡ after → ((found : List B) (rs : List Refusal) → P found rs → Q found rs) → (found : List B) (rs : List Refusal) →
    UnlessRefused before P found rs → UnlessRefused after Q found rs
unless-refused before after P Q e each found rs (refused_before r rest k) = refused_before r rest (sym e ∙ k)
unless-refused before after P Q e each found rs (judged all others k p) = judged all others (sym e ∙ k) (each all others p)

module _ (c : Context) where
  of-sort-same : (e d : SortEquations) → AreSortEquationsAlike e d → (found : List ConditionalEquation) (rs : List Refusal) → AreJudgedOfSort c e found rs → AreJudgedOfSort c d found rs
  of-sort-same e d k found rs h =
      let sort : e.sort ≡ d.sort = k.sort in (
        h.0,
        h.1 ∙ (λ i. sort_named c.sorts (sort i).text),
        equations-same (under c d.variables.items) h.0 e.equations.items d.equations.items k.equations found rs
            (subst (λ z. AreEquationsJudged z h.0 e.equations.items found rs) (under-same c e.variables.items d.variables.items k.variables) h.2),
      )

  part-same : (e d : SortEquations) → AreSortEquationsAlike e d → (found : List ConditionalEquation) (rs : List Refusal) → IsPartJudged c e found rs → IsPartJudged c d found rs
  part-same e d k found rs h =
      let sort : e.sort ≡ d.sort = k.sort in
      let unknown = unknown-sorts-same c (declarations e.variables.items) (declarations d.variables.items) (declarations-alike e.variables.items d.variables.items k.variables) in
      unless-refused (unknown_sort c e.sort ++ unknown_sorts c (declarations e.variables.items)) (unknown_sort c d.sort ++ unknown_sorts c (declarations d.variables.items)) (AreJudgedOfSort c e) (AreJudgedOfSort c d)
      (λ i. unknown_sort c (sort i) ++ unknown i) (of-sort-same e d k) found rs h

pub body-same : (c : Context) (b d : EquationBody) → AreEquationBodiesAlike b d → (found : List ConditionalEquation) (rs : List Refusal) → IsBodyJudged c b found rs → IsBodyJudged c d found rs
body-same c b d k found rs h =
    unless-refused (unknown_sorts c (declarations b.variables.items)) (unknown_sorts c (declarations d.variables.items))
    (Gathers (IsPartJudged (under c b.variables.items)) b.parts.items) (Gathers (IsPartJudged (under c d.variables.items)) d.parts.items)
    (unknown-sorts-same c (declarations b.variables.items) (declarations d.variables.items) (declarations-alike b.variables.items d.variables.items k.variables))
    (λ all others g. gathers-alike AreSortEquationsAlike (IsPartJudged (under c d.variables.items)) (IsPartJudged (under c d.variables.items)) (part-same (under c d.variables.items)) b.parts.items d.parts.items k.parts all others
    (subst (λ z. Gathers (IsPartJudged z) b.parts.items all others) (under-same c b.variables.items d.variables.items k.variables) g))
    found rs h
