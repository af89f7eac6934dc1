-- Operations that are declared with one list of sorts, as far as they are read.
use Rattle.std.specs.Prelude.{List, ◌++◌, Bool, true, false, Option, Vec}
use Rattle.std.specs.declared.alloc.Global.{Global}
use Rattle.lotos_ast.specs.declared.mark.Mark.{Mark}
use Rattle.lotos_ast.specs.declared.token.Token.{Token}
use Rattle.lotos_ast.specs.declared.types.DeclaredName.{DeclaredName}
use Rattle.lotos_ast.specs.declared.types.OperationName.{OperationName}
use Rattle.lotos_ast.specs.declared.types.OperationName.TheVariants.{Prefix, Infix}
use Rattle.lotos_ast.specs.Notation.{Syntax, quoted, optional, part, operation_names, identifier, list, ◌▸◌, ◌∣◌}
use Rattle.lotos_ast.specs.Grammar.{infix_end}
use Rattle.lotos_ast.specs.Nesting.{Nesting}
use Rattle.lotos_ast.specs.Reads.{Tree, Reads}
use Rattle.lotos_ast.specs.TypeTrees.{names_tree, prefix_end_tree, infix_end_tree}
use Rattle.syntax_cursor.specs.declared.parse_fault.ParseFault.{ParseFault}
use Rattle.syntax_cursor.specs.Parsers.{Halts}

-- whether an operation stands between its arguments
abbrev pub is_infix : OperationName → Bool
is_infix (Prefix place name) = false
is_infix (Infix place name) = true

-- what follows names of which one stands between its arguments or none does
abbrev pub after_names : Bool → Syntax
after_names true = infix_end
after_names false =
    quoted Mark.Comma ▸ part operation_names ∣ quoted Mark.Colon ▸ optional (list identifier) ▸ quoted Mark.Arrow ▸ identifier

abbrev pub after_names_tree : Bool → List DeclaredName → Option (Vec Token Global) → Token → Tree
after_names_tree true names sorts result = infix_end_tree names sorts result
after_names_tree false names sorts result = prefix_end_tree names sorts result

-- From the first list of tokens to the second, the names were read; one of them stands between its arguments or none does.
-- What follows completes the declaration.
pub record NamesOn (d : Nesting) (s : List Token) (xs : List DeclaredName) (between : Bool) (m : List Token) : Type 0 where
  pub reads : (ys : List DeclaredName) (sorts : Option (Vec Token Global)) (result : Token) (r : List Token) →
      Reads d (after_names between) m (after_names_tree between ys sorts result) r →
      Reads d (part operation_names) s (names_tree (xs ++ ys) sorts result) r
  pub halts : (e : ParseFault) (r : List Token) → Halts e d (after_names between) m r → Halts e d (part operation_names) s r
