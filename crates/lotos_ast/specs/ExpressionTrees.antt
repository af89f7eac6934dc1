-- The trees of expressions and premisses.
use Rattle.std.specs.Prelude.{List, [], ◌∷◌, map, Option, Some, None, Vec, box_value}
use Rattle.std.specs.declared.alloc.Global.{Global}
use Rattle.lotos_ast.specs.declared.token.Token.{Token}
use Rattle.lotos_ast.specs.declared.expression.Expr.{Expr, Expr-F, fold-Expr}
use Rattle.lotos_ast.specs.declared.expression.Infix.{Infix, Infix-F, fold-Infix}
use Rattle.lotos_ast.specs.declared.expression.Simple.{Simple, Simple-F, fold-Simple}
use Rattle.lotos_ast.specs.declared.expression.Head.{Head}
use Rattle.lotos_ast.specs.declared.expression.Head.TheOpen.{Head-F, Applied, Grouped}
use Rattle.lotos_ast.specs.declared.expression.Head.TheFolds.{fold-Head}
use Rattle.lotos_ast.specs.declared.expression.Premiss.{Premiss}
use Rattle.lotos_ast.specs.Reads.{Tree, unkept, leaf, both, left, right, absent, present, node}
use Rattle.lotos_ast.specs.ListTrees.{repeated_tree, list_tree, behind, between}

-- an operation with its right operand, and the further ones of its chain
abbrev pub with_rest : Tree → Tree → Tree
with_rest (node p (both name operand)) rest = node p (both name (both operand rest))
with_rest x rest = unkept

abbrev pub infixes_tree : List Tree → Tree
infixes_tree [] = absent
infixes_tree (x ∷ xs) = present (with_rest x (infixes_tree xs))

-- an `of` and a sort
abbrev pub of_sort : Token → Tree
of_sort sort = behind (leaf sort)

-- arguments in parentheses that may be left out
abbrev pub arguments_tree : Option (Vec Tree Global) → Tree
arguments_tree None = absent
arguments_tree (Some arguments) = present (between (list_tree arguments.items))

abbrev pub head_step : Head-F Tree Tree Tree Tree → Tree
head_step (Applied place name arguments) = node place (right (both (leaf name) (arguments_tree arguments)))
head_step (Grouped place inner) = node place (left (between (box_value inner)))

abbrev pub expr_step : Expr-F Tree Tree Tree Tree → Tree
expr_step e = node e.place (both e.first (infixes_tree e.rest.items))

abbrev pub infix_step : Infix-F Tree Tree Tree Tree → Tree
infix_step i = node i.place (both (leaf i.name) i.right)

abbrev pub simple_step : Simple-F Tree Tree Tree Tree → Tree
simple_step s = node s.place (both s.head (repeated_tree (map of_sort s.sorts.items)))

abbrev pub expr_tree : Expr → Tree
expr_tree = fold-Expr Tree Tree Tree Tree head_step expr_step infix_step simple_step

-- an operation with its right operand
abbrev pub infix_tree : Infix → Tree
infix_tree = fold-Infix Tree Tree Tree Tree head_step expr_step infix_step simple_step

abbrev pub simple_tree : Simple → Tree
simple_tree = fold-Simple Tree Tree Tree Tree head_step expr_step infix_step simple_step

abbrev pub head_tree : Head → Tree
head_tree = fold-Head Tree Tree Tree Tree head_step expr_step infix_step simple_step

-- values in parentheses that may be left out
abbrev pub values_tree : Option (Vec Expr Global) → Tree
values_tree None = absent
values_tree (Some values) = present (between (list_tree (map expr_tree values.items)))

abbrev pub optional_right_tree : Option Expr → Tree
optional_right_tree None = absent
optional_right_tree (Some e) = present (behind (expr_tree e))

abbrev pub premiss_tree : Premiss → Tree
premiss_tree p = node p.place (both (expr_tree p.left) (optional_right_tree p.right))
