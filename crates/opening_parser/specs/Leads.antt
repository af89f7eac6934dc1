-- A part of the grammar of which the beginning was read.
use Rattle.std.specs.Prelude.{List}
use Rattle.lotos_ast.specs.declared.token.Token.{Token}
use Rattle.lotos_ast.specs.Notation.{Syntax}
use Rattle.lotos_ast.specs.Nesting.{Nesting}
use Rattle.lotos_ast.specs.Reads.{Tree, Reads}
use Rattle.syntax_cursor.specs.declared.parse_fault.ParseFault.{ParseFault}
use Rattle.syntax_cursor.specs.Parsers.{Halts}

-- The tokens from the first list to the second are the beginning of the part g. Where the part z is read behind them, in the
-- nesting there, the tree of g is f of the tree of z; and where that stops, g does.
pub record Leads (d : Nesting) (g : Syntax) (s : List Token) (f : Tree → Tree) (n : Nesting) (z : Syntax) (m : List Token) : Type 0 where
  pub reads : (x : Tree) (r : List Token) → Reads n z m x r → Reads d g s (f x) r
  pub halts : (e : ParseFault) (r : List Token) → Halts e n z m r → Halts e d g s r
