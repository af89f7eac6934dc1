-- Equations of one sort, as far as they are read.
use Rattle.std.specs.Prelude.{List, ◌++◌}
use Rattle.lotos_ast.specs.declared.token.Token.{Token}
use Rattle.lotos_ast.specs.Notation.{optional, part, equations}
use Rattle.lotos_ast.specs.Nesting.{Nesting}
use Rattle.lotos_ast.specs.Reads.{Tree, Reads}
use Rattle.lotos_ast.specs.TypeTrees.{equations_tree}
use Rattle.syntax_cursor.specs.declared.parse_fault.ParseFault.{ParseFault}
use Rattle.syntax_cursor.specs.Parsers.{Halts}

-- From the first list of tokens to the second, equations with these trees were read, each with a semicolon. What follows
-- completes them.
pub record EquationsOn (d : Nesting) (s : List Token) (xs : List Tree) (m : List Token) : Type 0 where
  pub reads : (ys : List Tree) (r : List Token) →
      Reads d (optional (part equations)) m (equations_tree ys) r →
      Reads d (optional (part equations)) s (equations_tree (xs ++ ys)) r
  pub halts : (e : ParseFault) (r : List Token) → Halts e d (optional (part equations)) m r → Halts e d (optional (part equations)) s r
