-- The shortest texts of the rules are what they are said to be.
use Rattle.lotos_ast.specs.Notation.{Part, specification, gate_list, functionality, type_definition, where_item, sort_part, operation_part, operation_names, infix_names, operation_name, equation_part, sort_equations, equations, equation, premiss, for_all, declarations, declaration, sort_pair, operation_pair, expression, infixes, simple, head, process, behaviour, enabling, disable, disabling, parallel, composing, operator, choice, choosing, unary, offer, atom, exit_value, binding, gate_choice}
use Rattle.lotos_ast.specs.Grammar.{rule}
use Rattle.lotos_ast.specs.Conditions.{HasShortestTexts}

pub rules_have_shortest_texts : (p : Part) → HasShortestTexts (rule p)
rules_have_shortest_texts specification = search
rules_have_shortest_texts gate_list = search
rules_have_shortest_texts functionality = search
rules_have_shortest_texts type_definition = search
rules_have_shortest_texts where_item = search
rules_have_shortest_texts sort_part = search
rules_have_shortest_texts operation_part = search
rules_have_shortest_texts operation_names = search
rules_have_shortest_texts infix_names = search
rules_have_shortest_texts operation_name = search
rules_have_shortest_texts equation_part = search
rules_have_shortest_texts sort_equations = search
rules_have_shortest_texts equations = search
rules_have_shortest_texts equation = search
rules_have_shortest_texts premiss = search
rules_have_shortest_texts for_all = search
rules_have_shortest_texts declarations = search
rules_have_shortest_texts declaration = search
rules_have_shortest_texts sort_pair = search
rules_have_shortest_texts operation_pair = search
rules_have_shortest_texts expression = search
rules_have_shortest_texts infixes = search
rules_have_shortest_texts simple = search
rules_have_shortest_texts head = search
rules_have_shortest_texts process = search
rules_have_shortest_texts behaviour = search
rules_have_shortest_texts enabling = search
rules_have_shortest_texts disable = search
rules_have_shortest_texts disabling = search
rules_have_shortest_texts parallel = search
rules_have_shortest_texts composing = search
rules_have_shortest_texts operator = search
rules_have_shortest_texts choice = search
rules_have_shortest_texts choosing = search
rules_have_shortest_texts unary = search
rules_have_shortest_texts offer = search
rules_have_shortest_texts atom = search
rules_have_shortest_texts exit_value = search
rules_have_shortest_texts binding = search
rules_have_shortest_texts gate_choice = search
