-- Constructs of behaviour (ISO 8807, behaviour expressions): the levels of operators and the parentheses of the grammar are gone, and what
-- stands in a construct is kept as it is written.
use Rattle.std.specs.Prelude.{List, Option}
use Rattle.lotos_ast.specs.declared.behaviour.Binding.{Binding}
use Rattle.lotos_ast.specs.declared.behaviour.ExitValue.{ExitValue}
use Rattle.lotos_ast.specs.declared.behaviour.GateChoice.{GateChoice}
use Rattle.lotos_ast.specs.declared.behaviour.Offer.{Offer}
use Rattle.lotos_ast.specs.declared.behaviour.Operator.{Operator}
use Rattle.lotos_ast.specs.declared.declaration.Declaration.{Declaration}
use Rattle.lotos_ast.specs.declared.expression.Expr.{Expr}
use Rattle.lotos_ast.specs.declared.expression.Premiss.{Premiss}
use Rattle.lotos_ast.specs.declared.place.Place.{Place}
use Rattle.lotos_ast.specs.declared.token.Token.{Token}

-- the place of an operator between two parts is that of its token
pub data Construct : Type 0 where
  stops : Construct
  exits : List ExitValue → Construct
  acts_inside : Construct → Construct
  acts : Token → List Offer → Option Premiss → Construct → Construct
  chooses : Place → Construct → Construct → Construct
  asks : Premiss → Construct → Construct
  binds : List Binding → Construct → Construct
  chooses_values : List Declaration → Construct → Construct
  chooses_gates : List GateChoice → Construct → Construct
  composes : Place → Operator → Construct → Construct → Construct
  hides : List Token → Construct → Construct
  enables : Place → Construct → List Declaration → Construct → Construct
  disables : Place → Construct → Construct → Construct
  calls : Token → List Token → List Expr → Construct
  copies : Token → List Token → Operator → Construct → Construct
