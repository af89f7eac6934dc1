-- What a token is to the grammar: which words are reserved (ISO 8807 gives them; letters of either case serve), and which
-- spellings are symbols.
use Rattle.std.specs.Prelude.{ℕ, List, [], ◌∷◌, codes, Bool, Option, Some, None, if◌then◌else◌}
use Rattle.std.specs.Borrow.{Bor}
use Rattle.std.specs.Str.{str_eq_ignore_ascii_case}
use Rattle.lotos_ast.specs.declared.mark.Mark.{Mark}
use Rattle.lotos_ast.specs.declared.mark.Mark.TheVariants.{Accept, ActualizedBy, Any, Behaviour, Choice, EndLib}
use Rattle.lotos_ast.specs.declared.mark.Mark.TheVariants.{EndProc, EndSpec, EndType, Eqns, Exit, For, ForAll}
use Rattle.lotos_ast.specs.declared.mark.Mark.TheVariants.{FormalEqns, FormalOpns, FormalSorts, Hide, I, In, Is, Let}
use Rattle.lotos_ast.specs.declared.mark.Mark.TheVariants.{Library, NoExit, Of, OfSort, OpnNames, Opns, Par, Process}
use Rattle.lotos_ast.specs.declared.mark.Mark.TheVariants.{RenamedBy, SortNames, Sorts, Specification, Stop}
use Rattle.lotos_ast.specs.declared.mark.Mark.TheVariants.{TypeKeyword, Using, Where, Brackets, Disable, LeftBracket}
use Rattle.lotos_ast.specs.declared.mark.Mark.TheVariants.{RightBars, RightBracket, Interleave, Synchronise, LeftBars}
use Rattle.lotos_ast.specs.declared.mark.Mark.TheVariants.{ColonEquals, Colon, Equals, DoubleArrow, Arrow, Enable}
use Rattle.lotos_ast.specs.declared.mark.Mark.TheVariants.{LeftParenthesis, RightParenthesis, Semicolon, Comma}
use Rattle.lotos_ast.specs.declared.mark.Mark.TheVariants.{Exclamation, Question, Underscore}

-- whether two words are equal when letters compare without case
abbrev pub is_same_word : List ℕ → List ℕ → Bool
is_same_word word other = str_eq_ignore_ascii_case word other

-- the mark that a table of spellings gives to a word
abbrev pub find_mark : List ℕ → List (List ℕ × Mark) → Option Mark
find_mark word [] = None
find_mark word (entry ∷ rest) = if is_same_word word entry.0 then Some entry.1 else find_mark word rest

-- an entry of the program's tables
abbrev pub entry_of : Bor (List ℕ) × Mark → List ℕ × Mark
entry_of entry = (entry.0.now, entry.1)

-- the reserved words
abbrev pub reserved_words : List (List ℕ × Mark)
reserved_words =
    (codes "accept", Accept) ∷
    (codes "actualizedby", ActualizedBy) ∷
    (codes "any", Any) ∷
    (codes "behavior", Behaviour) ∷
    (codes "behaviour", Behaviour) ∷
    (codes "choice", Choice) ∷
    (codes "endlib", EndLib) ∷
    (codes "endproc", EndProc) ∷
    (codes "endspec", EndSpec) ∷
    (codes "endtype", EndType) ∷
    (codes "eqns", Eqns) ∷
    (codes "exit", Exit) ∷
    (codes "for", For) ∷
    (codes "forall", ForAll) ∷
    (codes "formaleqns", FormalEqns) ∷
    (codes "formalopns", FormalOpns) ∷
    (codes "formalsorts", FormalSorts) ∷
    (codes "hide", Hide) ∷
    (codes "i", I) ∷
    (codes "in", In) ∷
    (codes "is", Is) ∷
    (codes "let", Let) ∷
    (codes "library", Library) ∷
    (codes "noexit", NoExit) ∷
    (codes "of", Of) ∷
    (codes "ofsort", OfSort) ∷
    (codes "opnnames", OpnNames) ∷
    (codes "opns", Opns) ∷
    (codes "par", Par) ∷
    (codes "process", Process) ∷
    (codes "renamedby", RenamedBy) ∷
    (codes "sortnames", SortNames) ∷
    (codes "sorts", Sorts) ∷
    (codes "specification", Specification) ∷
    (codes "stop", Stop) ∷
    (codes "type", TypeKeyword) ∷
    (codes "using", Using) ∷
    (codes "where", Where) ∷ []

-- the spellings of the symbols
abbrev pub symbol_spellings : List (List ℕ × Mark)
symbol_spellings =
    (codes "[]", Brackets) ∷
    (codes "[>", Disable) ∷
    (codes "[", LeftBracket) ∷
    (codes "]|", RightBars) ∷
    (codes "]", RightBracket) ∷
    (codes "|||", Interleave) ∷
    (codes "||", Synchronise) ∷
    (codes "|[", LeftBars) ∷
    (codes ":=", ColonEquals) ∷
    (codes ":", Colon) ∷
    (codes "=", Equals) ∷
    (codes "=>", DoubleArrow) ∷
    (codes "->", Arrow) ∷
    (codes ">>", Enable) ∷
    (codes "(", LeftParenthesis) ∷
    (codes ")", RightParenthesis) ∷
    (codes ";", Semicolon) ∷
    (codes ",", Comma) ∷
    (codes "!", Exclamation) ∷
    (codes "?", Question) ∷
    (codes "_", Underscore) ∷ []

-- the keyword that a word is, if it is reserved
abbrev pub keyword_of : List ℕ → Option Mark
keyword_of word = find_mark word reserved_words

-- the symbol with this spelling, if there is one
abbrev pub symbol_of : List ℕ → Option Mark
symbol_of text = find_mark text symbol_spellings
