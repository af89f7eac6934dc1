-- Laws: what the definitions of this crate say of a part of a text, they say in one way only: it comes to one result, with one list of
-- refusals.
use Rattle.std.specs.Prelude.{◌≡◌, List}
use Rattle.lotos_ast.specs.declared.expression.Premiss.{Premiss}
use Rattle.lotos_ast.specs.declared.refusal.Refusal.{Refusal}
use Rattle.lotos_ast.specs.declared.types.Equation.{Equation}
use Rattle.lotos_ast.specs.declared.types.EquationBody.{EquationBody}
use Rattle.spec_core.specs.declared.items.Sort.{Sort}
use Rattle.sort_overloads.specs.Readings.{Context}
use Rattle.static_equations.specs.Bodies.{IsBodyJudged}
use Rattle.static_equations.specs.Equations.{IsEquationJudged}
use Rattle.static_equations.specs.Premisses.{IsPremissJudged}

-- the relation has at most one result, with one list of refusals
abbrev pub IsOne : {B : Type 0} → (B → List Refusal → Type 0) → Type 0
IsOne {B} P = (found other : B) (refusals others : List Refusal) → P found refusals → P other others → (found ≡ other) × (refusals ≡ others)

abbrev pub PremissesAreOne : Type 0
PremissesAreOne = (c : Context) (p : Premiss) → IsOne (IsPremissJudged c p)

abbrev pub EquationsAreOne : Type 0
EquationsAreOne = (c : Context) (sort : Sort) (e : Equation) → IsOne (IsEquationJudged c sort e)

abbrev pub BodiesAreOne : Type 0
BodiesAreOne = (c : Context) (body : EquationBody) → IsOne (IsBodyJudged c body)
