-- The equations of a type as they are written (ISO 8807, ACT ONE): parts of one sort each, under lists of variables. Where the sort of a
-- part or of a variable isn't known, that alone is refused: what stands under it isn't judged (this profile).
use Rattle.std.specs.Prelude.{◌≡◌, List, ◌++◌}
use Rattle.lotos_ast.specs.declared.refusal.Refusal.{Refusal}
use Rattle.lotos_ast.specs.declared.types.Equation.{Equation}
use Rattle.lotos_ast.specs.declared.types.EquationBody.{EquationBody}
use Rattle.lotos_ast.specs.declared.types.SortEquations.{SortEquations}
use Rattle.spec_core.specs.declared.items.Sort.{Sort}
use Rattle.spec_core.specs.Theories.{ConditionalEquation}
use Rattle.sort_overloads.specs.Readings.{Context}
use Rattle.sort_overloads.specs.Refused.{unknown_sort}
use Rattle.static_equations.specs.Equations.{IsEquationJudged}
use Rattle.static_equations.specs.Gathered.{Gathers, IfRead, UnlessRefused}
use Rattle.static_equations.specs.Variables.{declarations, sort_named, unknown_sorts, under}

-- equations of one sort, in their order
abbrev pub AreEquationsJudged : Context → Sort → List Equation → List ConditionalEquation → List Refusal → Type 0
AreEquationsJudged c sort = Gathers (λ e. IfRead (IsEquationJudged c sort e))

-- the sort is that of this name
abbrev pub AreJudgedOfSort : Context → SortEquations → List ConditionalEquation → List Refusal → Type 0
AreJudgedOfSort c part found refusals = (sort : Sort) × (sort.0 ≡ sort_named c.sorts part.sort.text)
    × AreEquationsJudged (under c part.variables.items) sort part.equations.items found refusals

-- a part: its sort, its variables, its equations
abbrev pub IsPartJudged : Context → SortEquations → List ConditionalEquation → List Refusal → Type 0
IsPartJudged c part = UnlessRefused (unknown_sort c part.sort ++ unknown_sorts c (declarations part.variables.items))
    (AreJudgedOfSort c part)

-- the variables of all parts, and the parts in their order
abbrev pub IsBodyJudged : Context → EquationBody → List ConditionalEquation → List Refusal → Type 0
IsBodyJudged c body = UnlessRefused (unknown_sorts c (declarations body.variables.items))
    (Gathers (IsPartJudged (under c body.variables.items)) body.parts.items)
