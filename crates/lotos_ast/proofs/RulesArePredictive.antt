-- In each rule one token ahead decides.
use Rattle.lotos_ast.specs.Notation.{Part, specification, gate_list, functionality, type_definition, where_item, sort_part, operation_part, operation_names, infix_names, operation_name, equation_part, sort_equations, equations, equation, premiss, for_all, declarations, declaration, sort_pair, operation_pair, expression, infixes, simple, head, process, behaviour, enabling, disable, disabling, parallel, composing, operator, choice, choosing, unary, offer, atom, exit_value, binding, gate_choice}
use Rattle.lotos_ast.specs.Grammar.{rule}
use Rattle.lotos_ast.specs.Conditions.{IsPredictive}

pub rules_are_predictive : (p : Part) → IsPredictive (rule p)
rules_are_predictive specification = search
rules_are_predictive gate_list = search
rules_are_predictive functionality = search
rules_are_predictive type_definition = search
rules_are_predictive where_item = search
rules_are_predictive sort_part = search
rules_are_predictive operation_part = search
rules_are_predictive operation_names = search
rules_are_predictive infix_names = search
rules_are_predictive operation_name = search
rules_are_predictive equation_part = search
rules_are_predictive sort_equations = search
rules_are_predictive equations = search
rules_are_predictive equation = search
rules_are_predictive premiss = search
rules_are_predictive for_all = search
rules_are_predictive declarations = search
rules_are_predictive declaration = search
rules_are_predictive sort_pair = search
rules_are_predictive operation_pair = search
rules_are_predictive expression = search
rules_are_predictive infixes = search
rules_are_predictive simple = search
rules_are_predictive head = search
rules_are_predictive process = search
rules_are_predictive behaviour = search
rules_are_predictive enabling = search
rules_are_predictive disable = search
rules_are_predictive disabling = search
rules_are_predictive parallel = search
rules_are_predictive composing = search
rules_are_predictive operator = search
rules_are_predictive choice = search
rules_are_predictive choosing = search
rules_are_predictive unary = search
rules_are_predictive offer = search
rules_are_predictive atom = search
rules_are_predictive exit_value = search
rules_are_predictive binding = search
rules_are_predictive gate_choice = search
