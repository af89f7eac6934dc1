-- What a token is to the grammar.
use Rattle.std.specs.Prelude.{ℕ, List, unwrap_or}
use Rattle.lotos_ast.specs.declared.mark.Mark.{Mark}
use Rattle.lotos_ast.specs.declared.mark.Mark.TheVariants.{Unknown}
use Rattle.lotos_ast.specs.declared.token.Token.{Token}
use Rattle.lotos_ast.specs.declared.token.TokenKind.{TokenKind}
use Rattle.lotos_ast.specs.declared.token.TokenKind.TheVariants.{Keyword, Identifier, Numeral, Operation, Symbol}
use Rattle.lotos_ast.specs.declared.token.TokenKind.TheVariants.{ConstructorMark, ExternalMark}
use Rattle.lotos_ast.specs.Marks.{keyword_of, symbol_of}

-- what a token with this class and this text is to the grammar; a class whose texts differ is one mark
abbrev pub class_mark : TokenKind → List ℕ → Mark
class_mark Keyword text = unwrap_or (keyword_of text) Unknown
class_mark Identifier text = Mark.Identifier
class_mark Numeral text = Mark.Numeral
class_mark Operation text = Mark.Operation
class_mark Symbol text = unwrap_or (symbol_of text) Unknown
class_mark ConstructorMark text = Mark.ConstructorMark
class_mark ExternalMark text = Mark.ExternalMark

abbrev pub mark_of : Token → Mark
mark_of token = class_mark token.kind token.text
