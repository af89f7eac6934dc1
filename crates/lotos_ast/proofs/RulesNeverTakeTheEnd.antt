-- Each rule is sound.
use Rattle.lotos_ast.specs.Notation.{Part, specification, gate_list, functionality, type_definition, where_item, sort_part, operation_part, operation_names, infix_names, operation_name, equation_part, sort_equations, equations, equation, premiss, for_all, declarations, declaration, sort_pair, operation_pair, expression, infixes, simple, head, process, behaviour, enabling, disable, disabling, parallel, composing, operator, choice, choosing, unary, offer, atom, exit_value, binding, gate_choice}
use Rattle.lotos_ast.specs.Grammar.{rule}
use Rattle.lotos_ast.specs.Conditions.{NeverTakesEnd}

pub rules_never_take_the_end : (p : Part) → NeverTakesEnd (rule p)
rules_never_take_the_end specification = search
rules_never_take_the_end gate_list = search
rules_never_take_the_end functionality = search
rules_never_take_the_end type_definition = search
rules_never_take_the_end where_item = search
rules_never_take_the_end sort_part = search
rules_never_take_the_end operation_part = search
rules_never_take_the_end operation_names = search
rules_never_take_the_end infix_names = search
rules_never_take_the_end operation_name = search
rules_never_take_the_end equation_part = search
rules_never_take_the_end sort_equations = search
rules_never_take_the_end equations = search
rules_never_take_the_end equation = search
rules_never_take_the_end premiss = search
rules_never_take_the_end for_all = search
rules_never_take_the_end declarations = search
rules_never_take_the_end declaration = search
rules_never_take_the_end sort_pair = search
rules_never_take_the_end operation_pair = search
rules_never_take_the_end expression = search
rules_never_take_the_end infixes = search
rules_never_take_the_end simple = search
rules_never_take_the_end head = search
rules_never_take_the_end process = search
rules_never_take_the_end behaviour = search
rules_never_take_the_end enabling = search
rules_never_take_the_end disable = search
rules_never_take_the_end disabling = search
rules_never_take_the_end parallel = search
rules_never_take_the_end composing = search
rules_never_take_the_end operator = search
rules_never_take_the_end choice = search
rules_never_take_the_end choosing = search
rules_never_take_the_end unary = search
rules_never_take_the_end offer = search
rules_never_take_the_end atom = search
rules_never_take_the_end exit_value = search
rules_never_take_the_end binding = search
rules_never_take_the_end gate_choice = search
