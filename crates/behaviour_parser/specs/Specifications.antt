-- Tokens that are no specification.
use Rattle.std.specs.Prelude.{List, ◌∷◌, Some, true, ◌≡◌, ◌⊎◌}
use Rattle.lotos_ast.specs.declared.token.Token.{Token}
use Rattle.lotos_ast.specs.declared.refusal.Refusal.{Refusal}
use Rattle.lotos_ast.specs.TokenMarks.{mark_of}
use Rattle.lotos_ast.specs.Notation.{part, specification}
use Rattle.lotos_ast.specs.declared.fault.Fault.{Fault}
use Rattle.lotos_ast.specs.Nesting.{fault_at, outermost}
use Rattle.lotos_ast.specs.Reads.{Tree, Reads, Stops}
use Rattle.lotos_ast.specs.Parsing.{IsParsed, IsRefused, refusal_at}
use Rattle.syntax_cursor.specs.declared.parse_fault.ParseFault.{ParseFault}
use Rattle.syntax_cursor.specs.Parsers.{reason_of}

-- The refusal of tokens of which no beginning is a whole specification, or of which one ends before the last token: the next one
-- is then the first with which no specification goes on, and it isn't nested.
pub data IsNoSpecification (tokens : List Token) : Refusal → Type 0 where
  stopped : (f : Fault) (rest : List Token) →
      IsRefused (part specification) tokens f rest →
      IsNoSpecification tokens (refusal_at f tokens rest)
  followed : (tree : Tree) (t : Token) (u : List Token) → IsParsed (part specification) tokens tree (t ∷ u) →
      IsNoSpecification tokens (refusal_at (fault_at true (mark_of t)) tokens (t ∷ u))

-- tokens follow a whole specification, and this is the reason why the first of them is refused
pub record IsFollowed (f : Fault) (s r : List Token) : Type 0 where
  pub tree : Tree
  pub token : Token
  pub others : List Token
  pub left : r ≡ token ∷ others
  pub read : Reads outermost (part specification) s tree r
  pub reason : f ≡ fault_at true (mark_of token)

-- the tokens before the rest aren't read as a specification to the last one, for the reason that the fault tells
pub record Fails (e : ParseFault) (s r : List Token) : Type 0 where
  pub stops : (f : Fault) → reason_of e ≡ Some f → Stops outermost f (part specification) s r ⊎ IsFollowed f s r
