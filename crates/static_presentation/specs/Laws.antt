-- A law of the definitions: types have one list each of own equations, and one list of refusals of them.
use Rattle.std.specs.Prelude.{List}
use Rattle.lotos_ast.specs.declared.types.TypeDef.{TypeDef}
use Rattle.static_equations.specs.Laws.{IsOne}
use Rattle.static_presentation.specs.Own.{AreOwnEquations}

abbrev pub OwnEquationsAreOne : Type 0
OwnEquationsAreOne = (types : List TypeDef) → IsOne (AreOwnEquations types)
