-- What a condition stands for (this profile): two expressions that are to be equal, or one that is to be the constant `true`. An expression
-- alone is read with the sort of that constant; where there is no such constant, it can't be read.
use Rattle.std.specs.Prelude.{◌≡◌, List, [], ◌∷◌, Option, Some, None, option_map}
use Rattle.lotos_ast.specs.declared.expression.Expr.{Expr}
use Rattle.lotos_ast.specs.declared.expression.Premiss.{Premiss}
use Rattle.lotos_ast.specs.declared.place.Place.{Place}
use Rattle.lotos_ast.specs.declared.refusal.Refusal.{Refusal}
use Rattle.lotos_ast.specs.declared.refusal.RefusalKind.TheVariants.{NoReading}
use Rattle.lotos_ast.specs.ExpressionTrees.{expr_tree}
use Rattle.lotos_ast.specs.ListTrees.{tree_place}
use Rattle.spec_core.specs.declared.items.Sort.{Sort}
use Rattle.spec_core.specs.Theories.{Premise, premise}
use Rattle.sort_overloads.specs.Expressions.{Expression, expression}
use Rattle.sort_overloads.specs.Judged.{IsJudged}
use Rattle.sort_overloads.specs.Listed.{Typed}
use Rattle.sort_overloads.specs.Readings.{Context}
use Rattle.sort_overloads.specs.Refused.{refused, unknowns}
use Rattle.static_equations.specs.Equalities.{sides_of, IsEqualityJudged}
use Rattle.static_equations.specs.Truths.{truth}

-- these refusals, or, where there are none, that what stands at the place has no reading
abbrev pub or_no_reading : Place → List Refusal → List Refusal
or_no_reading place [] = refused NoReading place [] ∷ []
or_no_reading place (r ∷ rs) = r ∷ rs

-- the expression at this place is to be true: it comes to this condition, or has these refusals
pub data IsTruthJudged (c : Context) (e : Expression) (place : Place) : Option Premise → List Refusal → Type 0 where
  by_truth : (t : Typed) (sort : Sort) (found : Option Typed) (refusals : List Refusal) → truth c ≡ Some t → sort.0 ≡ t.sort →
      IsJudged c e (Some sort) place found refusals → IsTruthJudged c e place (option_map (λ x. premise x.term t.term) found) refusals
  without : truth c ≡ None → IsTruthJudged c e place None (or_no_reading place (unknowns c e))

abbrev pub IsConditionJudged : Context → Expr → Option Expr → Option Premise → List Refusal → Type 0
IsConditionJudged c left None = IsTruthJudged c (expression (expr_tree left)) (tree_place (expr_tree left))
IsConditionJudged c left (Some right) = IsEqualityJudged c (sides_of (expr_tree left) (expr_tree right))

abbrev pub IsPremissJudged : Context → Premiss → Option Premise → List Refusal → Type 0
IsPremissJudged c p = IsConditionJudged c p.left p.right
