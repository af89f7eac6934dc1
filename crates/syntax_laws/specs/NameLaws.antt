-- Laws of tokens.
use Rattle.std.specs.Prelude.{ℕ, List}
use Rattle.lotos_ast.specs.declared.token.Token.{Token}
use Rattle.lotos_ast.specs.Tokenizes.{Tokenizes}
use Rattle.spec_core.specs.Lists.{Each}
use Rattle.syntax_laws.specs.Tokens.{IsTokenNamed}

-- the tokens of a text that name something are names that the grammar allows
abbrev pub TokensAreNamed : Type 0
TokensAreNamed = (text : List ℕ) (tokens : List Token) → Tokenizes text tokens → Each IsTokenNamed tokens
