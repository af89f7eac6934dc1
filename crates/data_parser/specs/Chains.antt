-- A chain of operations, as far as it is read.
use Rattle.std.specs.Prelude.{List, ◌++◌}
use Rattle.lotos_ast.specs.declared.token.Token.{Token}
use Rattle.lotos_ast.specs.Notation.{optional, part, infixes}
use Rattle.lotos_ast.specs.Nesting.{Nesting}
use Rattle.lotos_ast.specs.Reads.{Tree, Reads}
use Rattle.lotos_ast.specs.ExpressionTrees.{infixes_tree}
use Rattle.syntax_cursor.specs.declared.parse_fault.ParseFault.{ParseFault}
use Rattle.syntax_cursor.specs.Parsers.{Halts}

-- From the first list of tokens to the second, operations with these trees were read. What follows, in the nesting there,
-- completes the chain.
pub record ChainsOn (d : Nesting) (s : List Token) (xs : List Tree) (n : Nesting) (m : List Token) : Type 0 where
  pub reads : (ys : List Tree) (r : List Token) →
      Reads n (optional (part infixes)) m (infixes_tree ys) r →
      Reads d (optional (part infixes)) s (infixes_tree (xs ++ ys)) r
  pub halts : (e : ParseFault) (r : List Token) → Halts e n (optional (part infixes)) m r → Halts e d (optional (part infixes)) s r
