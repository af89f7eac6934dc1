-- What a parser's function of one part of the grammar answers.
use Rattle.std.specs.Prelude.{List, Option, Some, None, ◌≡◌}
use Rattle.lotos_ast.specs.declared.token.Token.{Token}
use Rattle.lotos_ast.specs.Notation.{Syntax}
use Rattle.lotos_ast.specs.declared.fault.Fault.{Fault}
use Rattle.lotos_ast.specs.Nesting.{Nesting}
use Rattle.lotos_ast.specs.Reads.{Stops}
use Rattle.lotos_ast.specs.Parsing.{refusal_at}
use Rattle.lotos_ast.specs.declared.refusal.FrontFault.{FrontFault}
use Rattle.lotos_ast.specs.Refusals.{OnRefusal}
use Rattle.syntax_cursor.specs.declared.parse_fault.ParseFault.{ParseFault}
use Rattle.syntax_cursor.specs.declared.parse_fault.ParseFault.TheVariants.{Stopped, Memory}

-- the reason that a parser's fault tells; want of memory tells none
abbrev pub reason_of : ParseFault → Option Fault
reason_of (Stopped fault) = Some fault
reason_of Memory = None

-- reading the part from the tokens of the first list stops before those of the second, for the reason that the fault tells
pub record Halts (e : ParseFault) (d : Nesting) (g : Syntax) (s r : List Token) : Type 0 where
  pub stops : (f : Fault) → reason_of e ≡ Some f → Stops d f g s r

-- the refusal is that of the tokens where reading stops before the rest of them, for the reason that the fault tells
abbrev pub Tells : FrontFault → ParseFault → List Token → List Token → Type 0
Tells x e tokens rest = OnRefusal x (λ refusal. (f : Fault) × (reason_of e ≡ Some f) × (refusal ≡ refusal_at f tokens rest))
