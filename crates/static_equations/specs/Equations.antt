-- What an equation of a type stands for (ISO 8807, ACT ONE): its premises, and both sides, which are read with the sort of its `ofsort`.
use Rattle.std.specs.Prelude.{◌≡◌, List, [], ◌++◌, Option, Some, None, Vec}
use Rattle.std.specs.declared.alloc.Global.{Global}
use Rattle.lotos_ast.specs.declared.expression.Premiss.{Premiss}
use Rattle.lotos_ast.specs.declared.expression.Expr.{Expr}
use Rattle.lotos_ast.specs.declared.place.Place.{Place}
use Rattle.lotos_ast.specs.declared.refusal.Refusal.{Refusal}
use Rattle.lotos_ast.specs.declared.types.Equation.{Equation}
use Rattle.lotos_ast.specs.ExpressionTrees.{expr_tree}
use Rattle.lotos_ast.specs.ListTrees.{tree_place}
use Rattle.spec_core.specs.declared.items.Sort.{Sort}
use Rattle.spec_core.specs.Theories.{Premise, ConditionalEquation}
use Rattle.sort_overloads.specs.Expressions.{expression}
use Rattle.sort_overloads.specs.Judged.{IsJudged}
use Rattle.sort_overloads.specs.Listed.{Typed}
use Rattle.sort_overloads.specs.Readings.{Context}
use Rattle.static_equations.specs.Gathered.{Gathers, IfRead}
use Rattle.static_equations.specs.Numbered.{equation_of_terms}
use Rattle.static_equations.specs.Premisses.{IsPremissJudged}

-- a list that may be left out
abbrev pub listed : {A : Type 0} → Option (Vec A Global) → List A
listed None = []
listed (Some all) = all.items

-- premises in their order
abbrev pub ArePremissesJudged : Context → List Premiss → List Premise → List Refusal → Type 0
ArePremissesJudged c = Gathers (λ p. IfRead (IsPremissJudged c p))

-- a side of an equation
abbrev pub IsSideJudged : Context → Sort → Expr → Option Typed → List Refusal → Type 0
IsSideJudged c sort e = IsJudged c (expression (expr_tree e)) (Some sort) (tree_place (expr_tree e))

-- the equation of what was read, where nothing is refused
abbrev pub equation_unless_refused : Context → Place → List Premise → Option Typed → Option Typed → List Refusal →
    Option ConditionalEquation
equation_unless_refused c place premises (Some left) (Some right) [] =
    Some (equation_of_terms c.variables place premises left.term right.term)
equation_unless_refused c place premises left right refusals = None

-- the equation is read as this, or has these refusals: those of its premises, then of its left side, then of its right side
pub record IsEquationJudged (c : Context) (sort : Sort) (e : Equation) (found : Option ConditionalEquation) (refusals : List Refusal) :
    Type 0 where
  pub premises : List Premise
  pub left : Option Typed
  pub right : Option Typed
  pub premise_refusals : List Refusal
  pub left_refusals : List Refusal
  pub right_refusals : List Refusal
  pub premises_judged : ArePremissesJudged c (listed e.premisses) premises premise_refusals
  pub left_judged : IsSideJudged c sort e.left left left_refusals
  pub right_judged : IsSideJudged c sort e.right right right_refusals
  pub all_refusals : refusals ≡ premise_refusals ++ (left_refusals ++ right_refusals)
  pub equation : found ≡ equation_unless_refused c e.place premises left right refusals
