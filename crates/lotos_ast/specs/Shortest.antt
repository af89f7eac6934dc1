-- A token with each mark, and a shortest text of each part of the grammar.
use Rattle.std.specs.Prelude.{ℕ, zero, suc, List, [], ◌∷◌, ◌++◌, codes, Bool, true, false, not, ◌&&◌, ◌||◌}
use Rattle.lotos_ast.specs.declared.mark.Mark.{Mark}
use Rattle.lotos_ast.specs.declared.token.Token.{Token}
use Rattle.lotos_ast.specs.declared.token.TokenKind.{TokenKind}
use Rattle.lotos_ast.specs.Begins.{no_place, is_empty}
use Rattle.lotos_ast.specs.Notation.{Part, Wanted, marked, named, Syntax, quoted, kept, sequence, either, optional}
use Rattle.lotos_ast.specs.Notation.{repeated, placed, reduced, bracketed, enclosed, part, specification, gate_list}
use Rattle.lotos_ast.specs.Notation.{functionality, type_definition, where_item, sort_part, operation_part}
use Rattle.lotos_ast.specs.Notation.{operation_names, infix_names, operation_name, equation_part, sort_equations}
use Rattle.lotos_ast.specs.Notation.{equations, equation, premiss, for_all, declarations, declaration, sort_pair}
use Rattle.lotos_ast.specs.Notation.{operation_pair, expression, infixes, simple, head, process, behaviour, enabling}
use Rattle.lotos_ast.specs.Notation.{disable, disabling, parallel, composing, operator, choice, choosing, unary, offer}
use Rattle.lotos_ast.specs.Notation.{atom, exit_value, binding, gate_choice}

abbrev pub token : TokenKind → List ℕ → Token
token kind text = record { kind = kind; place = no_place; text = text }

-- a token with this mark; the end and what is unknown have none
abbrev pub sample : Mark → Token
sample Mark.Accept = token TokenKind.Keyword (codes "accept")
sample Mark.ActualizedBy = token TokenKind.Keyword (codes "actualizedby")
sample Mark.Any = token TokenKind.Keyword (codes "any")
sample Mark.Behaviour = token TokenKind.Keyword (codes "behaviour")
sample Mark.Choice = token TokenKind.Keyword (codes "choice")
sample Mark.EndLib = token TokenKind.Keyword (codes "endlib")
sample Mark.EndProc = token TokenKind.Keyword (codes "endproc")
sample Mark.EndSpec = token TokenKind.Keyword (codes "endspec")
sample Mark.EndType = token TokenKind.Keyword (codes "endtype")
sample Mark.Eqns = token TokenKind.Keyword (codes "eqns")
sample Mark.Exit = token TokenKind.Keyword (codes "exit")
sample Mark.For = token TokenKind.Keyword (codes "for")
sample Mark.ForAll = token TokenKind.Keyword (codes "forall")
sample Mark.FormalEqns = token TokenKind.Keyword (codes "formaleqns")
sample Mark.FormalOpns = token TokenKind.Keyword (codes "formalopns")
sample Mark.FormalSorts = token TokenKind.Keyword (codes "formalsorts")
sample Mark.Hide = token TokenKind.Keyword (codes "hide")
sample Mark.I = token TokenKind.Keyword (codes "i")
sample Mark.In = token TokenKind.Keyword (codes "in")
sample Mark.Is = token TokenKind.Keyword (codes "is")
sample Mark.Let = token TokenKind.Keyword (codes "let")
sample Mark.Library = token TokenKind.Keyword (codes "library")
sample Mark.NoExit = token TokenKind.Keyword (codes "noexit")
sample Mark.Of = token TokenKind.Keyword (codes "of")
sample Mark.OfSort = token TokenKind.Keyword (codes "ofsort")
sample Mark.OpnNames = token TokenKind.Keyword (codes "opnnames")
sample Mark.Opns = token TokenKind.Keyword (codes "opns")
sample Mark.Par = token TokenKind.Keyword (codes "par")
sample Mark.Process = token TokenKind.Keyword (codes "process")
sample Mark.RenamedBy = token TokenKind.Keyword (codes "renamedby")
sample Mark.SortNames = token TokenKind.Keyword (codes "sortnames")
sample Mark.Sorts = token TokenKind.Keyword (codes "sorts")
sample Mark.Specification = token TokenKind.Keyword (codes "specification")
sample Mark.Stop = token TokenKind.Keyword (codes "stop")
sample Mark.TypeKeyword = token TokenKind.Keyword (codes "type")
sample Mark.Using = token TokenKind.Keyword (codes "using")
sample Mark.Where = token TokenKind.Keyword (codes "where")
sample Mark.Brackets = token TokenKind.Symbol (codes "[]")
sample Mark.Disable = token TokenKind.Symbol (codes "[>")
sample Mark.LeftBracket = token TokenKind.Symbol (codes "[")
sample Mark.RightBars = token TokenKind.Symbol (codes "]|")
sample Mark.RightBracket = token TokenKind.Symbol (codes "]")
sample Mark.Interleave = token TokenKind.Symbol (codes "|||")
sample Mark.Synchronise = token TokenKind.Symbol (codes "||")
sample Mark.LeftBars = token TokenKind.Symbol (codes "|[")
sample Mark.ColonEquals = token TokenKind.Symbol (codes ":=")
sample Mark.Colon = token TokenKind.Symbol (codes ":")
sample Mark.Equals = token TokenKind.Symbol (codes "=")
sample Mark.DoubleArrow = token TokenKind.Symbol (codes "=>")
sample Mark.Arrow = token TokenKind.Symbol (codes "->")
sample Mark.Enable = token TokenKind.Symbol (codes ">>")
sample Mark.LeftParenthesis = token TokenKind.Symbol (codes "(")
sample Mark.RightParenthesis = token TokenKind.Symbol (codes ")")
sample Mark.Semicolon = token TokenKind.Symbol (codes ";")
sample Mark.Comma = token TokenKind.Symbol (codes ",")
sample Mark.Exclamation = token TokenKind.Symbol (codes "!")
sample Mark.Question = token TokenKind.Symbol (codes "?")
sample Mark.Underscore = token TokenKind.Symbol (codes "_")
sample Mark.Identifier = token TokenKind.Identifier (codes "x")
sample Mark.Numeral = token TokenKind.Numeral (codes "0")
sample Mark.Operation = token TokenKind.Operation (codes "+")
sample Mark.ConstructorMark = token TokenKind.ConstructorMark (codes "(*! constructor *)")
sample Mark.ExternalMark = token TokenKind.ExternalMark (codes "(*! external *)")
sample Mark.End = token TokenKind.Keyword []
sample Mark.Unknown = token TokenKind.Keyword []

abbrev pub sample_of : Wanted → Token
sample_of (marked m) = sample m
sample_of named = sample Mark.Identifier

-- a shortest text of each rule (of alternatives, of the last one)
abbrev pub short_part : Part → List Token
short_part specification = sample Mark.Specification ∷ sample Mark.Identifier ∷ sample Mark.Colon ∷ sample Mark.Exit
    ∷ sample Mark.Behaviour ∷ sample Mark.Stop ∷ sample Mark.EndSpec ∷ []
short_part gate_list = sample Mark.LeftBracket ∷ sample Mark.Identifier ∷ sample Mark.RightBracket ∷ []
short_part functionality = sample Mark.Exit ∷ []
short_part type_definition = sample Mark.TypeKeyword ∷ sample Mark.Identifier ∷ sample Mark.Is ∷ sample Mark.EndType ∷ []
short_part where_item = sample Mark.Process ∷ sample Mark.Identifier ∷ sample Mark.Colon ∷ sample Mark.Exit ∷ sample Mark.ColonEquals
    ∷ sample Mark.Stop ∷ sample Mark.EndProc ∷ []
short_part sort_part = sample Mark.Sorts ∷ sample Mark.Identifier ∷ []
short_part operation_part = sample Mark.Opns ∷ []
short_part operation_names = sample Mark.Underscore ∷ sample Mark.Identifier ∷ sample Mark.Underscore ∷ sample Mark.Colon
    ∷ sample Mark.Identifier ∷ sample Mark.Comma ∷ sample Mark.Identifier ∷ sample Mark.Arrow ∷ sample Mark.Identifier ∷ []
short_part infix_names = sample Mark.Underscore ∷ sample Mark.Identifier ∷ sample Mark.Underscore ∷ sample Mark.Colon
    ∷ sample Mark.Identifier ∷ sample Mark.Comma ∷ sample Mark.Identifier ∷ sample Mark.Arrow ∷ sample Mark.Identifier ∷ []
short_part operation_name = sample Mark.Underscore ∷ sample Mark.Identifier ∷ sample Mark.Underscore ∷ []
short_part equation_part = sample Mark.Eqns ∷ []
short_part sort_equations = sample Mark.OfSort ∷ sample Mark.Identifier ∷ []
short_part equations = sample Mark.Identifier ∷ sample Mark.DoubleArrow ∷ sample Mark.Identifier ∷ sample Mark.Equals
    ∷ sample Mark.Identifier ∷ []
short_part equation = sample Mark.Identifier ∷ sample Mark.DoubleArrow ∷ sample Mark.Identifier ∷ sample Mark.Equals
    ∷ sample Mark.Identifier ∷ []
short_part premiss = sample Mark.Identifier ∷ []
short_part for_all = sample Mark.ForAll ∷ sample Mark.Identifier ∷ sample Mark.Colon ∷ sample Mark.Identifier ∷ []
short_part declarations = sample Mark.Identifier ∷ sample Mark.Colon ∷ sample Mark.Identifier ∷ []
short_part declaration = sample Mark.Identifier ∷ sample Mark.Colon ∷ sample Mark.Identifier ∷ []
short_part sort_pair = sample Mark.Identifier ∷ sample Mark.For ∷ sample Mark.Identifier ∷ []
short_part operation_pair = sample Mark.Underscore ∷ sample Mark.Identifier ∷ sample Mark.Underscore ∷ sample Mark.For
    ∷ sample Mark.Underscore ∷ sample Mark.Identifier ∷ sample Mark.Underscore ∷ []
short_part expression = sample Mark.Identifier ∷ []
short_part infixes = sample Mark.Identifier ∷ sample Mark.Identifier ∷ []
short_part simple = sample Mark.Identifier ∷ []
short_part head = sample Mark.Identifier ∷ []
short_part process = sample Mark.Process ∷ sample Mark.Identifier ∷ sample Mark.Colon ∷ sample Mark.Exit ∷ sample Mark.ColonEquals
    ∷ sample Mark.Stop ∷ sample Mark.EndProc ∷ []
short_part behaviour = sample Mark.Stop ∷ []
short_part enabling = sample Mark.Enable ∷ sample Mark.Stop ∷ []
short_part disable = sample Mark.Stop ∷ []
short_part disabling = sample Mark.Disable ∷ sample Mark.Stop ∷ []
short_part parallel = sample Mark.Stop ∷ []
short_part composing = sample Mark.LeftBars ∷ sample Mark.Identifier ∷ sample Mark.RightBars ∷ sample Mark.Stop ∷ []
short_part operator = sample Mark.LeftBars ∷ sample Mark.Identifier ∷ sample Mark.RightBars ∷ []
short_part choice = sample Mark.Stop ∷ []
short_part choosing = sample Mark.Brackets ∷ sample Mark.Stop ∷ []
short_part unary = sample Mark.Stop ∷ []
short_part offer = sample Mark.Question ∷ sample Mark.Identifier ∷ sample Mark.Colon ∷ sample Mark.Identifier ∷ []
short_part atom = sample Mark.Stop ∷ []
short_part exit_value = sample Mark.Identifier ∷ []
short_part binding = sample Mark.Identifier ∷ sample Mark.Colon ∷ sample Mark.Identifier ∷ sample Mark.Equals ∷ sample Mark.Identifier ∷ []
short_part gate_choice = sample Mark.Identifier ∷ sample Mark.In ∷ sample Mark.LeftBracket ∷ sample Mark.Identifier
    ∷ sample Mark.RightBracket ∷ []

-- a shortest text of a part
abbrev pub short : Syntax → List Token
short (quoted k) = sample k ∷ []
short (kept w) = sample_of w ∷ []
short (sequence a b) = short a ++ short b
short (either a b) = short b
short (optional a) = []
short (repeated a) = []
short (placed a) = short a
short (reduced u a) = short a
short (bracketed a) = short a
short (enclosed a) = short a
short (part p) = short_part p

-- A number for each rule. The rules of which its shortest text is made, and those that it may begin with, have lower ones.
abbrev pub rank : Part → ℕ
rank specification = 6
rank gate_list = 0
rank functionality = 0
rank type_definition = 0
rank where_item = 7
rank sort_part = 0
rank operation_part = 0
rank operation_names = 0
rank infix_names = 1
rank operation_name = 0
rank equation_part = 0
rank sort_equations = 0
rank equations = 4
rank equation = 3
rank premiss = 3
rank for_all = 2
rank declarations = 1
rank declaration = 0
rank sort_pair = 0
rank operation_pair = 1
rank expression = 2
rank infixes = 2
rank simple = 1
rank head = 0
rank process = 6
rank behaviour = 5
rank enabling = 6
rank disable = 4
rank disabling = 5
rank parallel = 3
rank composing = 4
rank operator = 0
rank choice = 2
rank choosing = 3
rank unary = 1
rank offer = 0
rank atom = 0
rank exit_value = 3
rank binding = 3
rank gate_choice = 1

abbrev pub is_above : ℕ → ℕ → Bool
is_above zero n = false
is_above (suc m) zero = true
is_above (suc m) (suc n) = is_above m n

-- whether the rules of which a shortest text of a part is made have a number below this one
abbrev pub is_short_by : ℕ → Syntax → Bool
is_short_by n (quoted k) = true
is_short_by n (kept w) = true
is_short_by n (sequence a b) = is_short_by n a && is_short_by n b
is_short_by n (either a b) = is_short_by n b
is_short_by n (optional a) = true
is_short_by n (repeated a) = true
is_short_by n (placed a) = is_short_by n a
is_short_by n (reduced u a) = is_short_by n a
is_short_by n (bracketed a) = is_short_by n a
is_short_by n (enclosed a) = is_short_by n a
is_short_by n (part p) = is_above n (rank p)

-- whether the rules that a part may begin with have a number below this one
abbrev pub is_led_by : ℕ → Syntax → Bool
is_led_by n (quoted k) = true
is_led_by n (kept w) = true
is_led_by n (sequence a b) = is_led_by n a && (not (is_empty a) || is_led_by n b)
is_led_by n (either a b) = is_led_by n a && is_led_by n b
is_led_by n (optional a) = is_led_by n a
is_led_by n (repeated a) = is_led_by n a
is_led_by n (placed a) = is_led_by n a
is_led_by n (reduced u a) = is_led_by n a
is_led_by n (bracketed a) = is_led_by n a
is_led_by n (enclosed a) = is_led_by n a
is_led_by n (part p) = is_above n (rank p)
