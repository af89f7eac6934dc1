-- The grammar, rule by rule (docs/LANGUAGE.md, "Grammar"). Alternatives are told apart by the next token; where a rule as
-- it is usually written needs more than that, what its alternatives share stands before them.
use Rattle.lotos_ast.specs.declared.mark.Mark.{Mark}
use Rattle.lotos_ast.specs.Notation.{Part, Syntax, quoted, optional, repeated, placed, bracketed, enclosed, part, ◌▸◌}
use Rattle.lotos_ast.specs.Notation.{◌∣◌, identifier, name, constructor_mark, list, loose_list, mark_and}
use Rattle.lotos_ast.specs.Notation.{in_parentheses, specification, gate_list, functionality, type_definition}
use Rattle.lotos_ast.specs.Notation.{where_item, sort_part, operation_part, operation_names, infix_names}
use Rattle.lotos_ast.specs.Notation.{operation_name, equation_part, sort_equations, equations, equation, premiss}
use Rattle.lotos_ast.specs.Notation.{for_all, declarations, declaration, sort_pair, operation_pair, expression, infixes}
use Rattle.lotos_ast.specs.Notation.{simple, head, process, behaviour, enabling, disable, disabling, parallel}
use Rattle.lotos_ast.specs.Notation.{composing, operator, choice, choosing, unary, offer, atom, exit_value, binding}
use Rattle.lotos_ast.specs.Notation.{gate_choice}

-- "where" and any number of types and processes
abbrev pub where_part : Syntax
where_part = quoted Mark.Where ▸ repeated (part where_item)

-- parts of rules that may be empty

abbrev pub sort_list : Syntax
sort_list = placed (loose_list identifier)

abbrev pub operation_declaration : Syntax
operation_declaration = placed (part operation_names)

abbrev pub equation_body : Syntax
equation_body = placed (repeated (part for_all) ▸ repeated (part sort_equations))

abbrev pub formals : Syntax
formals = placed (optional (quoted Mark.FormalSorts ▸ sort_list)
    ▸ optional (quoted Mark.FormalOpns ▸ repeated operation_declaration)
    ▸ optional (quoted Mark.FormalEqns ▸ equation_body))

abbrev pub declared_items : Syntax
declared_items = formals ▸ optional (part sort_part) ▸ optional (part operation_part) ▸ optional (part equation_part)

abbrev pub pairs : Syntax
pairs = placed (optional (quoted Mark.SortNames ▸ loose_list (part sort_pair))
    ▸ optional (quoted Mark.OpnNames ▸ loose_list (part operation_pair)))

-- the three forms of a type's body; each may begin with an identifier
abbrev pub type_body : Syntax
type_body = placed
    (identifier ▸
    (quoted Mark.RenamedBy ▸ pairs
    ∣ quoted Mark.ActualizedBy ▸ list identifier ▸ quoted Mark.Using ▸ pairs
    ∣ repeated (quoted Mark.Comma ▸ identifier) ▸ declared_items)
    ∣ declared_items)

-- an operation's name as it is declared: applied before its arguments, or between them
abbrev pub prefix_form : Syntax
prefix_form = name

abbrev pub infix_form : Syntax
infix_form = quoted Mark.Underscore ▸ name ▸ quoted Mark.Underscore

-- what follows a list of operations with a name that stands between its arguments
abbrev pub infix_end : Syntax
infix_end =
    quoted Mark.Comma ▸ part infix_names
    ∣ quoted Mark.Colon ▸ identifier ▸ quoted Mark.Comma ▸ identifier ▸ quoted Mark.Arrow ▸ identifier

-- what follows the left side of an equation with premisses, behind its first premiss
abbrev pub conclusion : Syntax
conclusion = repeated (quoted Mark.Comma ▸ part premiss) ▸ quoted Mark.DoubleArrow ▸ part expression ▸ quoted Mark.Equals ▸ part expression

-- actual gates and actual values of a process
abbrev pub arguments : Syntax
arguments = optional (part gate_list) ▸ optional (in_parentheses (list (part expression)))

abbrev pub predicate : Syntax
predicate = quoted Mark.LeftBracket ▸ part premiss ▸ quoted Mark.RightBracket

-- the behaviour behind an action or a guard
abbrev pub prefixed : Syntax
prefixed = enclosed (part unary)

-- the `[]` of a choice over variables or gates, whose place the tree keeps
abbrev pub choice_brackets : Syntax
choice_brackets = placed (quoted Mark.Brackets)

abbrev pub rule : Part → Syntax
rule specification = quoted Mark.Specification ▸ identifier ▸ optional (part gate_list) ▸ quoted Mark.Colon ▸ part functionality
    ▸ repeated (part type_definition) ▸ quoted Mark.Behaviour ▸ part behaviour ▸ optional where_part ▸ quoted Mark.EndSpec
rule gate_list = quoted Mark.LeftBracket ▸ list identifier ▸ quoted Mark.RightBracket
rule functionality = quoted Mark.NoExit ∣ quoted Mark.Exit ▸ optional (in_parentheses (list identifier))
rule where_item = part type_definition ∣ part process
rule type_definition =
    quoted Mark.Library ▸ list identifier ▸ quoted Mark.EndLib
    ∣ quoted Mark.TypeKeyword ▸ identifier ▸ quoted Mark.Is ▸ type_body ▸ quoted Mark.EndType
rule sort_part = quoted Mark.Sorts ▸ sort_list
rule operation_part = quoted Mark.Opns ▸ repeated operation_declaration
-- Operations with one list of sorts. Once a name that stands between its arguments is among them, there are exactly two.
rule operation_names =
    placed prefix_form ▸ optional constructor_mark ▸
    (quoted Mark.Comma ▸ part operation_names
    ∣ quoted Mark.Colon ▸ optional (list identifier) ▸ quoted Mark.Arrow ▸ identifier)
    ∣ placed infix_form ▸ optional constructor_mark ▸ infix_end
rule infix_names = part operation_name ▸ optional constructor_mark ▸ infix_end
rule operation_name = prefix_form ∣ infix_form
rule equation_part = quoted Mark.Eqns ▸ equation_body
rule sort_equations = quoted Mark.OfSort ▸ identifier ▸ repeated (part for_all) ▸ optional (part equations)
-- one equation or more; the last semicolon may be left out
rule equations = part equation ▸ mark_and Mark.Semicolon (part equations)
-- A left and a right side; or premisses, an arrow and both sides. Both begin with an expression.
rule equation = placed (part expression ▸
    (quoted Mark.Equals ▸ part expression ▸ optional conclusion
    ∣ conclusion))
rule premiss = part expression ▸ optional (quoted Mark.Equals ▸ part expression)
rule for_all = quoted Mark.ForAll ▸ part declarations
rule declarations = list (part declaration)
rule declaration = list identifier ▸ quoted Mark.Colon ▸ identifier
rule sort_pair = identifier ▸ quoted Mark.For ▸ identifier
rule operation_pair = part operation_name ▸ quoted Mark.For ▸ part operation_name
rule expression = part simple ▸ optional (part infixes)
-- an operation between its arguments, and the further ones of its chain, which each operation before them encloses
rule infixes = name ▸ enclosed (part simple ▸ optional (part infixes))
rule simple = part head ▸ repeated (quoted Mark.Of ▸ identifier)
rule head = in_parentheses (part expression) ∣ name ▸ optional (in_parentheses (list (part expression)))
rule process = bracketed (quoted Mark.Process ▸ identifier ▸ optional (part gate_list) ▸ optional (in_parentheses (part declarations))
    ▸ quoted Mark.Colon ▸ part functionality ▸ quoted Mark.ColonEquals ▸ part behaviour ▸ optional where_part ▸ quoted Mark.EndProc)
rule behaviour = part disable ▸ optional (part enabling)
rule enabling = quoted Mark.Enable ▸ optional (quoted Mark.Accept ▸ part declarations ▸ quoted Mark.In) ▸ enclosed (part behaviour)
rule disable = part parallel ▸ optional (part disabling)
rule disabling = quoted Mark.Disable ▸ enclosed (part disable)
rule parallel = part choice ▸ optional (part composing)
rule composing = part operator ▸ enclosed (part parallel)
rule operator = quoted Mark.Interleave ∣ quoted Mark.Synchronise ∣ quoted Mark.LeftBars ▸ list identifier ▸ quoted Mark.RightBars
rule choice = part unary ▸ optional (part choosing)
rule choosing = quoted Mark.Brackets ▸ enclosed (part choice)
-- A guard; an action; a process. An identifier before `;`, `!` or `?` is a gate, any other a process.
rule unary =
    predicate ▸ quoted Mark.Arrow ▸ prefixed
    ∣ placed (quoted Mark.I) ▸ quoted Mark.Semicolon ▸ prefixed
    ∣ placed (identifier ▸
    (quoted Mark.Semicolon ▸ prefixed
    ∣ part offer ▸ repeated (part offer) ▸ optional predicate ▸ quoted Mark.Semicolon ▸ prefixed
    ∣ arguments))
    ∣ part atom
rule offer =
    quoted Mark.Exclamation ▸ part expression
    ∣ quoted Mark.Question ▸ list identifier ▸ quoted Mark.Colon ▸ identifier
rule atom =
    in_parentheses (part behaviour)
    ∣ bracketed (quoted Mark.Hide ▸ list identifier ▸ quoted Mark.In ▸ part behaviour)
    ∣ bracketed (quoted Mark.Let ▸ list (part binding) ▸ quoted Mark.In ▸ part behaviour)
    ∣ bracketed (quoted Mark.Choice ▸ placed (placed (identifier ▸
    (quoted Mark.In ▸ part gate_list ▸ repeated (quoted Mark.Comma ▸ part gate_choice) ▸ choice_brackets ▸ part behaviour
    ∣ repeated (quoted Mark.Comma ▸ identifier) ▸ quoted Mark.Colon ▸ identifier ▸ repeated (quoted Mark.Comma ▸ part declaration)
    ▸ choice_brackets ▸ part behaviour))))
    ∣ bracketed (quoted Mark.Par ▸ identifier ▸ quoted Mark.In ▸ part gate_list ▸ part operator ▸ part behaviour)
    ∣ quoted Mark.Exit ▸ optional (in_parentheses (list (part exit_value)))
    ∣ quoted Mark.Stop
rule exit_value = quoted Mark.Any ▸ identifier ∣ part expression
rule binding = identifier ▸ quoted Mark.Colon ▸ identifier ▸ quoted Mark.Equals ▸ part expression
rule gate_choice = identifier ▸ quoted Mark.In ▸ part gate_list
