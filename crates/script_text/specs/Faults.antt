-- What is wrong with a line. The kinds stand in the order in which they are tested. (This profile.)
use Rattle.std.specs.Prelude.{ℕ, ◌≡◌, List, true, false, Some, None}
use Rattle.std.specs.List.{list_any}
use Rattle.lotos_ast.specs.declared.text_kind.TextKind.{TextKind}
use Rattle.lotos_ast.specs.declared.text_kind.TextKind.TheVariants.{Form, Client, Gate, Sort, Term}
use Rattle.spec_core.specs.Lists.{OneOf}
use Rattle.sort_overloads.specs.Readings.{Context}
use Rattle.script_text.specs.Meanings.{first_named, has_unknown_sort, HasUnclearTerm}
use Rattle.script_text.specs.Numbers.{client_of}
use Rattle.script_text.specs.Written.{Field, Line, IsLine, IsNoLine}

-- what is wrong with an offer: the gate is unknown; a sort is unknown; an expression hasn't exactly one reading
pub data IsOfferFault (c : Context) (gates : List (List ℕ)) (name : List ℕ) (fields : List Field) : TextKind → Type 0 where
  no_gate : first_named name gates ≡ None → IsOfferFault c gates name fields Gate
  no_sort : (gate : ℕ) → first_named name gates ≡ Some gate → list_any (has_unknown_sort c) fields ≡ true →
      IsOfferFault c gates name fields Sort
  no_term : (gate : ℕ) → first_named name gates ≡ Some gate → list_any (has_unknown_sort c) fields ≡ false →
      OneOf (HasUnclearTerm c) fields → IsOfferFault c gates name fields Term

-- what is wrong with what a line says: the client isn't one of 64; or the offer is at fault
pub data IsFaultOf (c : Context) (gates : List (List ℕ)) (l : Line) : TextKind → Type 0 where
  no_client : client_of l.client ≡ None → IsFaultOf c gates l Client
  by_offer : {kind : TextKind} (client : ℕ) → client_of l.client ≡ Some client → IsOfferFault c gates l.gate l.fields kind →
      IsFaultOf c gates l kind

-- what is wrong with a line: it is no line of the grammar, or what it says is at fault
pub data IsLineFault (c : Context) (gates : List (List ℕ)) (text : List ℕ) : TextKind → Type 0 where
  no_line : IsNoLine text → IsLineFault c gates text Form
  by_meaning : {kind : TextKind} (l : Line) → IsLine text (Some l) → IsFaultOf c gates l kind → IsLineFault c gates text kind
