-- A repeated part, as far as it is read.
use Rattle.std.specs.Prelude.{List, ◌++◌}
use Rattle.lotos_ast.specs.declared.token.Token.{Token}
use Rattle.lotos_ast.specs.Notation.{Syntax, repeated}
use Rattle.lotos_ast.specs.Nesting.{Nesting}
use Rattle.lotos_ast.specs.Reads.{Tree, Reads}
use Rattle.lotos_ast.specs.ListTrees.{repeated_tree}
use Rattle.syntax_cursor.specs.declared.parse_fault.ParseFault.{ParseFault}
use Rattle.syntax_cursor.specs.Parsers.{Halts}

-- From the first list of tokens to the second, the part was read once for each of the trees; what follows completes it.
pub record Repeats (d : Nesting) (a : Syntax) (s : List Token) (xs : List Tree) (m : List Token) : Type 0 where
  pub reads : (ys : List Tree) (r : List Token) →
      Reads d (repeated a) m (repeated_tree ys) r →
      Reads d (repeated a) s (repeated_tree (xs ++ ys)) r
  pub halts : (e : ParseFault) (r : List Token) → Halts e d (repeated a) m r → Halts e d (repeated a) s r
