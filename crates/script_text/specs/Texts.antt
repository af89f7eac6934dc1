-- Texts that are a part of the grammar, whole.
use Rattle.std.specs.Prelude.{ℕ, ◌≤◌, List, [], length}
use Rattle.lotos_ast.specs.declared.token.Token.{Token}
use Rattle.lotos_ast.specs.Nesting.{outermost}
use Rattle.lotos_ast.specs.Notation.{Syntax}
use Rattle.lotos_ast.specs.Reads.{Tree, Reads}
use Rattle.lotos_ast.specs.Tokenizes.{Tokenizes, text_limit}

-- the text isn't too long, and its tokens are read as the part, to the last one, with this tree; none of them is nested too deep
pub record IsTextOf (g : Syntax) (text : List ℕ) (tree : Tree) : Type 0 where
  pub short : length text ≤ text_limit
  pub tokens : List Token
  pub cut : Tokenizes text tokens
  pub read : Reads outermost g tokens tree []

-- no tree of the part stands for the text
pub record IsNoTextOf (g : Syntax) (text : List ℕ) : Type 0 where
  pub none : (tree : Tree) → IsTextOf g text tree → ⊥
