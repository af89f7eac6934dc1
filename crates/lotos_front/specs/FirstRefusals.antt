-- The first refusal of a text (this profile): the first part of the front end that refuses it answers, and in that part the earliest place,
-- then the lowest number. The parts are lexing, parsing, flattening of types, overloads of equations, and of the data shape and decrease.
use Rattle.std.specs.Prelude.{ℕ, ◌≡◌, List, [], Some}
use Rattle.lotos_ast.specs.declared.refusal.Refusal.{Refusal}
use Rattle.lotos_ast.specs.declared.token.Token.{Token}
use Rattle.lotos_ast.specs.declared.types.TypeDef.{TypeDef}
use Rattle.lotos_ast.specs.FirstRefusals.{first_refusal}
use Rattle.lotos_ast.specs.Tokenizes.{IsUnreadable}
use Rattle.spec_core.specs.Orthogonality.{IsOrthogonal}
use Rattle.spec_core.specs.Theories.{Theory}
use Rattle.flattening.specs.Refusals.{refusals_of}
use Rattle.static_presentation.specs.Presentations as presentation
use Rattle.equation_check.specs.Shape as equations
use Rattle.path_order.specs.Decrease as order
use Rattle.lotos_front.specs.Parsed.{IsLexed, IsUnparsed}
use Rattle.lotos_front.specs.Stages.{AreTypesIn, IsDataIn}

-- Each case says what the parts before it come to, none of which refuses the text.
pub data IsFirstDataRefusal (text : List ℕ) : Refusal → Type 0 where
  -- the text can't be read as tokens
  lexing : {r : Refusal} → IsUnreadable text r → IsFirstDataRefusal text r
  -- its tokens are no specification
  parsing : {r : Refusal} (tokens : List Token) → IsLexed text tokens → IsUnparsed text tokens r → IsFirstDataRefusal text r
  -- its types are refused
  flattening : {r : Refusal} (types : List TypeDef) → AreTypesIn text types → first_refusal (refusals_of types) ≡ Some r →
      IsFirstDataRefusal text r
  -- their equations are refused
  overloads : {r : Refusal} (types : List TypeDef) → AreTypesIn text types → refusals_of types ≡ [] → presentation.IsFirstRefusal types r →
      IsFirstDataRefusal text r
  -- an equation isn't as orthogonal data have it
  shape : {r : Refusal} (theory : Theory) → IsDataIn text theory → equations.IsFirstRefusal theory r → IsFirstDataRefusal text r
  -- an equation isn't decreasing
  decrease : {r : Refusal} (theory : Theory) → IsDataIn text theory → IsOrthogonal theory → order.IsFirstRefusal theory r →
      IsFirstDataRefusal text r
