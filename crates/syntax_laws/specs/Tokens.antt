-- Tokens that name something, by their classes. (ISO 8807, lexical tokens; and this profile.)
use Rattle.std.specs.Prelude.{ℕ, List}
use Rattle.lotos_ast.specs.declared.token.Token.{Token}
use Rattle.lotos_ast.specs.declared.token.TokenKind.{TokenKind}
use Rattle.lotos_ast.specs.declared.token.TokenKind.TheVariants.{Keyword, Identifier, Numeral, Operation, Symbol}
use Rattle.lotos_ast.specs.declared.token.TokenKind.TheVariants.{ConstructorMark, ExternalMark}
use Rattle.spec_core.specs.Names.{IsWord, IsIdentifier, IsOperationString}

-- a text that a token of this class has, if it is a name
abbrev pub IsNameOf : TokenKind → List ℕ → Type 0
IsNameOf Keyword text = Unit {0}
IsNameOf Identifier text = IsIdentifier text
IsNameOf Numeral text = IsWord text
IsNameOf Operation text = IsOperationString text
IsNameOf Symbol text = Unit {0}
IsNameOf ConstructorMark text = Unit {0}
IsNameOf ExternalMark text = Unit {0}

abbrev pub IsTokenNamed : Token → Type 0
IsTokenNamed t = IsNameOf t.kind t.text
