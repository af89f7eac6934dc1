-- What the parts of the front end come to, one after another: the tokens of a text, its types, the data that these come to.
use Rattle.std.specs.Prelude.{ℕ, ◌≡◌, List, []}
use Rattle.lotos_ast.specs.declared.token.Token.{Token}
use Rattle.lotos_ast.specs.declared.types.TypeDef.{TypeDef}
use Rattle.spec_core.specs.Sorts.{FitsData}
use Rattle.spec_core.specs.Theories.{Theory}
use Rattle.flattening.specs.Refusals.{refusals_of}
use Rattle.static_presentation.specs.Presentations.{IsPresentation}
use Rattle.lotos_front.specs.Parsed.{IsLexed}
use Rattle.lotos_front.specs.Types.{AreTypesOf}

-- the types of a text
pub record AreTypesIn (text : List ℕ) (types : List TypeDef) : Type 0 where
  pub tokens : List Token
  pub lexed : IsLexed text tokens
  pub read : AreTypesOf tokens types

-- the data of types, of which nothing is refused
pub record IsDataOf (types : List TypeDef) (theory : Theory) : Type 0 where
  pub unrefused : refusals_of types ≡ []
  pub presented : IsPresentation types theory
  pub fits : FitsData theory

-- the data of a text, whether or not they can be run
pub record IsDataIn (text : List ℕ) (theory : Theory) : Type 0 where
  pub types : List TypeDef
  pub read : AreTypesIn text types
  pub of_types : IsDataOf types theory
