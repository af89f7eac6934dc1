-- The tables of the rules are compared with the rules, by computing.
use Rattle.std.proofs.Common.{ℕ, zero, suc, List, [], ◌∷◌, Bool, true, false, ◌≡◌, refl, sym, ap, ◌∙◌, subst, Option, Some, None}
use Rattle.std.proofs.lemmas.Bool.{eqb-true}
use Rattle.spec_core.proofs.Booleans.{and_first_true, and_second_true}
use Rattle.lotos_ast.specs.declared.mark.Mark.{Mark}
use Rattle.lotos_ast.specs.declared.mark.Mark.TheVariants.{Accept, ActualizedBy, Any, Behaviour, Choice, EndLib, EndProc, EndSpec, EndType, Eqns, Exit, For, ForAll, FormalEqns, FormalOpns, FormalSorts, Hide, I, In, Is, Let, Library, NoExit, Of, OfSort, OpnNames, Opns, Par, Process, RenamedBy, SortNames, Sorts, Specification, Stop, TypeKeyword, Using, Where, Brackets, Disable, LeftBracket, RightBars, RightBracket, Interleave, Synchronise, LeftBars, ColonEquals, Colon, Equals, DoubleArrow, Arrow, Enable, LeftParenthesis, RightParenthesis, Semicolon, Comma, Exclamation, Question, Underscore, Identifier, Numeral, Operation, ConstructorMark, ExternalMark, End, Unknown}
use Rattle.lotos_ast.specs.MarkNumbers.{mark_number, is_same_mark, marks, holds_of, AllMarks}
use Rattle.lotos_ast.specs.Notation.{Part, specification, gate_list, functionality, type_definition, where_item, sort_part, operation_part, operation_names, infix_names, operation_name, equation_part, sort_equations, equations, equation, premiss, for_all, declarations, declaration, sort_pair, operation_pair, expression, infixes, simple, head, process, behaviour, enabling, disable, disabling, parallel, composing, operator, choice, choosing, unary, offer, atom, exit_value, binding, gate_choice}
use Rattle.lotos_ast.specs.Grammar.{rule}
use Rattle.lotos_ast.specs.Begins.{begins, is_empty, starts}
use Rattle.lotos_ast.specs.GoesOn.{goes_on, extends, onward}
use Rattle.lotos_ast.specs.Shortest.{short, short_part}
use Rattle.lotos_ast.specs.Spelled.{reaches}
use Rattle.lotos_ast.specs.Conditions.{implies}

-- what holds of every mark holds of each

abbrev mark_in : List Mark → ℕ → Option Mark
mark_in [] n = None
mark_in (m ∷ ms) zero = Some m
mark_in (m ∷ ms) (suc n) = mark_in ms n

holds_in : (test : Mark → Bool) (ms : List Mark) (n : ℕ) (m : Mark) → holds_of test ms ≡ true → mark_in ms n ≡ Some m → test m ≡ true
holds_in test [] n m h e = cc
holds_in test (k ∷ ms) zero m h e = let i : k ≡ m = cc in subst (λ z. test z ≡ true) i (and_first_true (test k) (holds_of test ms) h)
holds_in test (k ∷ ms) (suc n) m h e = holds_in test ms n m (and_second_true (test k) (holds_of test ms) h) e

mark_listed : (m : Mark) → mark_in marks (mark_number m) ≡ Some m
mark_listed Accept = refl
mark_listed ActualizedBy = refl
mark_listed Any = refl
mark_listed Behaviour = refl
mark_listed Choice = refl
mark_listed EndLib = refl
mark_listed EndProc = refl
mark_listed EndSpec = refl
mark_listed EndType = refl
mark_listed Eqns = refl
mark_listed Exit = refl
mark_listed For = refl
mark_listed ForAll = refl
mark_listed FormalEqns = refl
mark_listed FormalOpns = refl
mark_listed FormalSorts = refl
mark_listed Hide = refl
mark_listed I = refl
mark_listed In = refl
mark_listed Is = refl
mark_listed Let = refl
mark_listed Library = refl
mark_listed NoExit = refl
mark_listed Of = refl
mark_listed OfSort = refl
mark_listed OpnNames = refl
mark_listed Opns = refl
mark_listed Par = refl
mark_listed Process = refl
mark_listed RenamedBy = refl
mark_listed SortNames = refl
mark_listed Sorts = refl
mark_listed Specification = refl
mark_listed Stop = refl
mark_listed TypeKeyword = refl
mark_listed Using = refl
mark_listed Where = refl
mark_listed Brackets = refl
mark_listed Disable = refl
mark_listed LeftBracket = refl
mark_listed RightBars = refl
mark_listed RightBracket = refl
mark_listed Interleave = refl
mark_listed Synchronise = refl
mark_listed LeftBars = refl
mark_listed ColonEquals = refl
mark_listed Colon = refl
mark_listed Equals = refl
mark_listed DoubleArrow = refl
mark_listed Arrow = refl
mark_listed Enable = refl
mark_listed LeftParenthesis = refl
mark_listed RightParenthesis = refl
mark_listed Semicolon = refl
mark_listed Comma = refl
mark_listed Exclamation = refl
mark_listed Question = refl
mark_listed Underscore = refl
mark_listed Identifier = refl
mark_listed Numeral = refl
mark_listed Operation = refl
mark_listed ConstructorMark = refl
mark_listed ExternalMark = refl
mark_listed End = refl
mark_listed Unknown = refl

pub every : (test : Mark → Bool) → AllMarks test → (m : Mark) → test m ≡ true
every test h m = holds_in test marks (mark_number m) m h (mark_listed m)

-- marks that are the same are equal
pub same_equal : (k m : Mark) → is_same_mark k m ≡ true → k ≡ m
same_equal k m h =
    let e : mark_number k ≡ mark_number m = eqb-true (mark_number k) (mark_number m) h in
    let i : Some k ≡ Some m = sym (mark_listed k) ∙ ap (mark_in marks) e ∙ mark_listed m in
    cc

pub modus : (a b : Bool) → implies a b ≡ true → a ≡ true → b ≡ true
modus true b h e = h
modus false b h e = cc

pub contra : (a b : Bool) → implies a b ≡ true → b ≡ false → a ≡ false
contra true b h e = cc
contra false b h e = refl

-- no rule is empty
pub not_empty : (p : Part) → is_empty (rule p) ≡ false
not_empty specification = refl
not_empty gate_list = refl
not_empty functionality = refl
not_empty type_definition = refl
not_empty where_item = refl
not_empty sort_part = refl
not_empty operation_part = refl
not_empty operation_names = refl
not_empty infix_names = refl
not_empty operation_name = refl
not_empty equation_part = refl
not_empty sort_equations = refl
not_empty equations = refl
not_empty equation = refl
not_empty premiss = refl
not_empty for_all = refl
not_empty declarations = refl
not_empty declaration = refl
not_empty sort_pair = refl
not_empty operation_pair = refl
not_empty expression = refl
not_empty infixes = refl
not_empty simple = refl
not_empty head = refl
not_empty process = refl
not_empty behaviour = refl
not_empty enabling = refl
not_empty disable = refl
not_empty disabling = refl
not_empty parallel = refl
not_empty composing = refl
not_empty operator = refl
not_empty choice = refl
not_empty choosing = refl
not_empty unary = refl
not_empty offer = refl
not_empty atom = refl
not_empty exit_value = refl
not_empty binding = refl
not_empty gate_choice = refl

-- each rule begins with what its table says
pub begins_checked : (p : Part) → AllMarks (λ m. implies (starts (rule p) m) (begins p m))
begins_checked specification = refl
begins_checked gate_list = refl
begins_checked functionality = refl
begins_checked type_definition = refl
begins_checked where_item = refl
begins_checked sort_part = refl
begins_checked operation_part = refl
begins_checked operation_names = refl
begins_checked infix_names = refl
begins_checked operation_name = refl
begins_checked equation_part = refl
begins_checked sort_equations = refl
begins_checked equations = refl
begins_checked equation = refl
begins_checked premiss = refl
begins_checked for_all = refl
begins_checked declarations = refl
begins_checked declaration = refl
begins_checked sort_pair = refl
begins_checked operation_pair = refl
begins_checked expression = refl
begins_checked infixes = refl
begins_checked simple = refl
begins_checked head = refl
begins_checked process = refl
begins_checked behaviour = refl
begins_checked enabling = refl
begins_checked disable = refl
begins_checked disabling = refl
begins_checked parallel = refl
begins_checked composing = refl
begins_checked operator = refl
begins_checked choice = refl
begins_checked choosing = refl
begins_checked unary = refl
begins_checked offer = refl
begins_checked atom = refl
begins_checked exit_value = refl
begins_checked binding = refl
begins_checked gate_choice = refl

-- and with nothing else
pub begins_exactly : (p : Part) → AllMarks (λ m. implies (begins p m) (starts (rule p) m))
begins_exactly specification = refl
begins_exactly gate_list = refl
begins_exactly functionality = refl
begins_exactly type_definition = refl
begins_exactly where_item = refl
begins_exactly sort_part = refl
begins_exactly operation_part = refl
begins_exactly operation_names = refl
begins_exactly infix_names = refl
begins_exactly operation_name = refl
begins_exactly equation_part = refl
begins_exactly sort_equations = refl
begins_exactly equations = refl
begins_exactly equation = refl
begins_exactly premiss = refl
begins_exactly for_all = refl
begins_exactly declarations = refl
begins_exactly declaration = refl
begins_exactly sort_pair = refl
begins_exactly operation_pair = refl
begins_exactly expression = refl
begins_exactly infixes = refl
begins_exactly simple = refl
begins_exactly head = refl
begins_exactly process = refl
begins_exactly behaviour = refl
begins_exactly enabling = refl
begins_exactly disable = refl
begins_exactly disabling = refl
begins_exactly parallel = refl
begins_exactly composing = refl
begins_exactly operator = refl
begins_exactly choice = refl
begins_exactly choosing = refl
begins_exactly unary = refl
begins_exactly offer = refl
begins_exactly atom = refl
begins_exactly exit_value = refl
begins_exactly binding = refl
begins_exactly gate_choice = refl

-- each rule that is read goes on by what its table says, at most
pub goes_on_checked : (p : Part) → AllMarks (λ m. implies (extends (rule p) m) (goes_on p m))
goes_on_checked specification = refl
goes_on_checked gate_list = refl
goes_on_checked functionality = refl
goes_on_checked type_definition = refl
goes_on_checked where_item = refl
goes_on_checked sort_part = refl
goes_on_checked operation_part = refl
goes_on_checked operation_names = refl
goes_on_checked infix_names = refl
goes_on_checked operation_name = refl
goes_on_checked equation_part = refl
goes_on_checked sort_equations = refl
goes_on_checked equations = refl
goes_on_checked equation = refl
goes_on_checked premiss = refl
goes_on_checked for_all = refl
goes_on_checked declarations = refl
goes_on_checked declaration = refl
goes_on_checked sort_pair = refl
goes_on_checked operation_pair = refl
goes_on_checked expression = refl
goes_on_checked infixes = refl
goes_on_checked simple = refl
goes_on_checked head = refl
goes_on_checked process = refl
goes_on_checked behaviour = refl
goes_on_checked enabling = refl
goes_on_checked disable = refl
goes_on_checked disabling = refl
goes_on_checked parallel = refl
goes_on_checked composing = refl
goes_on_checked operator = refl
goes_on_checked choice = refl
goes_on_checked choosing = refl
goes_on_checked unary = refl
goes_on_checked offer = refl
goes_on_checked atom = refl
goes_on_checked exit_value = refl
goes_on_checked binding = refl
goes_on_checked gate_choice = refl

-- each rule that is spelled goes on by what its table says, at most
pub onward_checked : (p : Part) → AllMarks (λ m. implies (reaches (rule p) m) (onward p m))
onward_checked specification = refl
onward_checked gate_list = refl
onward_checked functionality = refl
onward_checked type_definition = refl
onward_checked where_item = refl
onward_checked sort_part = refl
onward_checked operation_part = refl
onward_checked operation_names = refl
onward_checked infix_names = refl
onward_checked operation_name = refl
onward_checked equation_part = refl
onward_checked sort_equations = refl
onward_checked equations = refl
onward_checked equation = refl
onward_checked premiss = refl
onward_checked for_all = refl
onward_checked declarations = refl
onward_checked declaration = refl
onward_checked sort_pair = refl
onward_checked operation_pair = refl
onward_checked expression = refl
onward_checked infixes = refl
onward_checked simple = refl
onward_checked head = refl
onward_checked process = refl
onward_checked behaviour = refl
onward_checked enabling = refl
onward_checked disable = refl
onward_checked disabling = refl
onward_checked parallel = refl
onward_checked composing = refl
onward_checked operator = refl
onward_checked choice = refl
onward_checked choosing = refl
onward_checked unary = refl
onward_checked offer = refl
onward_checked atom = refl
onward_checked exit_value = refl
onward_checked binding = refl
onward_checked gate_choice = refl

-- each rule has the shortest text of its table
pub short_checked : (p : Part) → short_part p ≡ short (rule p)
short_checked specification = refl
short_checked gate_list = refl
short_checked functionality = refl
short_checked type_definition = refl
short_checked where_item = refl
short_checked sort_part = refl
short_checked operation_part = refl
short_checked operation_names = refl
short_checked infix_names = refl
short_checked operation_name = refl
short_checked equation_part = refl
short_checked sort_equations = refl
short_checked equations = refl
short_checked equation = refl
short_checked premiss = refl
short_checked for_all = refl
short_checked declarations = refl
short_checked declaration = refl
short_checked sort_pair = refl
short_checked operation_pair = refl
short_checked expression = refl
short_checked infixes = refl
short_checked simple = refl
short_checked head = refl
short_checked process = refl
short_checked behaviour = refl
short_checked enabling = refl
short_checked disable = refl
short_checked disabling = refl
short_checked parallel = refl
short_checked composing = refl
short_checked operator = refl
short_checked choice = refl
short_checked choosing = refl
short_checked unary = refl
short_checked offer = refl
short_checked atom = refl
short_checked exit_value = refl
short_checked binding = refl
short_checked gate_choice = refl
