-- Marks by number, and what holds of all of them.
use Rattle.std.specs.Prelude.{ℕ, List, [], ◌∷◌, Bool, true, nat_eq, ◌&&◌, ◌≡◌}
use Rattle.lotos_ast.specs.declared.mark.Mark.{Mark}
use Rattle.lotos_ast.specs.declared.mark.Mark.TheVariants.{Accept, ActualizedBy, Any, Behaviour, Choice, EndLib}
use Rattle.lotos_ast.specs.declared.mark.Mark.TheVariants.{EndProc, EndSpec, EndType, Eqns, Exit, For, ForAll}
use Rattle.lotos_ast.specs.declared.mark.Mark.TheVariants.{FormalEqns, FormalOpns, FormalSorts, Hide, I, In, Is, Let}
use Rattle.lotos_ast.specs.declared.mark.Mark.TheVariants.{Library, NoExit, Of, OfSort, OpnNames, Opns, Par, Process}
use Rattle.lotos_ast.specs.declared.mark.Mark.TheVariants.{RenamedBy, SortNames, Sorts, Specification, Stop}
use Rattle.lotos_ast.specs.declared.mark.Mark.TheVariants.{TypeKeyword, Using, Where, Brackets, Disable, LeftBracket}
use Rattle.lotos_ast.specs.declared.mark.Mark.TheVariants.{RightBars, RightBracket, Interleave, Synchronise, LeftBars}
use Rattle.lotos_ast.specs.declared.mark.Mark.TheVariants.{ColonEquals, Colon, Equals, DoubleArrow, Arrow, Enable}
use Rattle.lotos_ast.specs.declared.mark.Mark.TheVariants.{LeftParenthesis, RightParenthesis, Semicolon, Comma}
use Rattle.lotos_ast.specs.declared.mark.Mark.TheVariants.{Exclamation, Question, Underscore, Identifier, Numeral}
use Rattle.lotos_ast.specs.declared.mark.Mark.TheVariants.{Operation, ConstructorMark, ExternalMark, End, Unknown}

-- a mark's place in the list of all marks
abbrev pub mark_number : Mark → ℕ
mark_number Accept = 0
mark_number ActualizedBy = 1
mark_number Any = 2
mark_number Behaviour = 3
mark_number Choice = 4
mark_number EndLib = 5
mark_number EndProc = 6
mark_number EndSpec = 7
mark_number EndType = 8
mark_number Eqns = 9
mark_number Exit = 10
mark_number For = 11
mark_number ForAll = 12
mark_number FormalEqns = 13
mark_number FormalOpns = 14
mark_number FormalSorts = 15
mark_number Hide = 16
mark_number I = 17
mark_number In = 18
mark_number Is = 19
mark_number Let = 20
mark_number Library = 21
mark_number NoExit = 22
mark_number Of = 23
mark_number OfSort = 24
mark_number OpnNames = 25
mark_number Opns = 26
mark_number Par = 27
mark_number Process = 28
mark_number RenamedBy = 29
mark_number SortNames = 30
mark_number Sorts = 31
mark_number Specification = 32
mark_number Stop = 33
mark_number TypeKeyword = 34
mark_number Using = 35
mark_number Where = 36
mark_number Brackets = 37
mark_number Disable = 38
mark_number LeftBracket = 39
mark_number RightBars = 40
mark_number RightBracket = 41
mark_number Interleave = 42
mark_number Synchronise = 43
mark_number LeftBars = 44
mark_number ColonEquals = 45
mark_number Colon = 46
mark_number Equals = 47
mark_number DoubleArrow = 48
mark_number Arrow = 49
mark_number Enable = 50
mark_number LeftParenthesis = 51
mark_number RightParenthesis = 52
mark_number Semicolon = 53
mark_number Comma = 54
mark_number Exclamation = 55
mark_number Question = 56
mark_number Underscore = 57
mark_number Identifier = 58
mark_number Numeral = 59
mark_number Operation = 60
mark_number ConstructorMark = 61
mark_number ExternalMark = 62
mark_number End = 63
mark_number Unknown = 64

-- whether two marks are the same
abbrev pub is_same_mark : Mark → Mark → Bool
is_same_mark a b = nat_eq (mark_number a) (mark_number b)

-- all marks
abbrev pub marks : List Mark
marks =
    Accept ∷ ActualizedBy ∷ Any ∷ Behaviour ∷ Choice ∷ EndLib ∷ EndProc ∷ EndSpec ∷
    EndType ∷ Eqns ∷ Exit ∷ For ∷ ForAll ∷ FormalEqns ∷ FormalOpns ∷ FormalSorts ∷
    Hide ∷ I ∷ In ∷ Is ∷ Let ∷ Library ∷ NoExit ∷ Of ∷
    OfSort ∷ OpnNames ∷ Opns ∷ Par ∷ Process ∷ RenamedBy ∷ SortNames ∷ Sorts ∷
    Specification ∷ Stop ∷ TypeKeyword ∷ Using ∷ Where ∷ Brackets ∷ Disable ∷ LeftBracket ∷
    RightBars ∷ RightBracket ∷ Interleave ∷ Synchronise ∷ LeftBars ∷ ColonEquals ∷ Colon ∷ Equals ∷
    DoubleArrow ∷ Arrow ∷ Enable ∷ LeftParenthesis ∷ RightParenthesis ∷ Semicolon ∷ Comma ∷ Exclamation ∷
    Question ∷ Underscore ∷ Identifier ∷ Numeral ∷ Operation ∷ ConstructorMark ∷ ExternalMark ∷ End ∷
    Unknown ∷ []

-- whether a test holds of each mark of a list
abbrev pub holds_of : (Mark → Bool) → List Mark → Bool
holds_of test [] = true
holds_of test (m ∷ ms) = test m && holds_of test ms

-- a test holds of every mark
abbrev pub AllMarks : (Mark → Bool) → Type 0
AllMarks test = holds_of test marks ≡ true
