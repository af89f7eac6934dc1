-- Beginnings of texts of the grammar. No limits of nesting count here.
use Rattle.std.specs.Prelude.{List, [], ◌∷◌, ◌++◌, ◌≡◌, ◌⊎◌}
use Rattle.lotos_ast.specs.declared.token.Token.{Token}
use Rattle.lotos_ast.specs.Notation.{Syntax}
use Rattle.lotos_ast.specs.declared.fault.Fault.{Fault}
use Rattle.lotos_ast.specs.Nesting.{Nesting, unlimited}
use Rattle.lotos_ast.specs.Reads.{Tree, Reads, Stops}

-- the tokens from the first list to the second are read as the part
abbrev pub Accepts : Nesting → Syntax → List Token → List Token → Type 0
Accepts d g s r = (x : Tree) × Reads d g s x r

-- the tokens are read as the part, to the last one
abbrev pub IsWhole : Syntax → List Token → Type 0
IsWhole g s = Accepts unlimited g s []

-- Reading gets to the end of the tokens: they are whole, or in some alternative the parts before the last one begun are
-- whole and that one is itself a front.
abbrev pub IsFront : Syntax → List Token → Type 0
IsFront g s = Stops unlimited Fault.Unexpected g s [] ⊎ IsWhole g s

-- some text of the grammar begins with the tokens
abbrev pub IsViable : Syntax → List Token → Type 0
IsViable g s = (others : List Token) × IsWhole g (s ++ others)

-- no text goes on with the next token; or the text ends and isn't whole
abbrev pub ComesAt : Syntax → List Token → List Token → Type 0
ComesAt g before [] = IsWhole g before → ⊥
ComesAt g before (t ∷ u) = IsViable g (before ++ t ∷ []) → ⊥

-- the rest begins with the first token with which no text of the grammar goes on, or is empty where the text ends too early
pub record UnexpectedAt (g : Syntax) (s rest : List Token) : Type 0 where
  pub before : List Token
  pub all : s ≡ before ++ rest
  pub front : IsViable g before
  pub comes : ComesAt g before rest

-- the tokens and the next one aren't a front
abbrev pub IsLongest : Syntax → List Token → List Token → Type 0
IsLongest g before [] = Unit {0}
IsLongest g before (t ∷ u) = IsFront g (before ++ t ∷ []) → ⊥
