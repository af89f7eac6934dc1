-- The grammar of a line of a script (docs/FORMATS.md, "Scripts").
use Rattle.std.specs.Prelude.{ℕ, ◌==◌, List, [], ◌∷◌, codes, Bool, true, false, ◌&&◌, ◌≡◌, Option, Some, None, is_some}
use Rattle.std.specs.Prelude.{unwrap_or, if◌then◌else◌}
use Rattle.lotos_ast.specs.declared.mark.Mark.{Mark}
use Rattle.lotos_ast.specs.declared.token.Token.{Token}
use Rattle.lotos_ast.specs.Notation.{Syntax, marked, quoted, kept, optional, repeated, part, expression, identifier, ◌▸◌, ◌∣◌}
use Rattle.lotos_ast.specs.Reads.{Tree, leaf, both, left, right, present, more}
use Rattle.sort_overloads.specs.Expressions as expressions
use Rattle.sort_overloads.specs.Expressions.{Expression, nothing}
use Rattle.sort_overloads.specs.Listed.{is_same_name}
use Rattle.script_text.specs.Numbers.{is_number}
use Rattle.script_text.specs.Texts.{IsTextOf}

-- a field: a value that is given, or a sort of which any value is taken
abbrev pub wish_field : Syntax
wish_field = quoted Mark.Exclamation ▸ part expression ∣ quoted Mark.Question ▸ identifier

-- a client, a colon, and what the client wishes: of two identifiers the second is the gate, and one alone is the gate
abbrev pub wish_line : Syntax
wish_line = kept (marked Mark.Numeral) ▸ quoted Mark.Colon ▸ identifier ▸ optional identifier ▸ repeated wish_field

-- a gate and fields: an offer, without its client
abbrev pub wish_offer : Syntax
wish_offer = identifier ▸ repeated wish_field

-- a field as it is written
pub data Field : Type 0 where
  given : Expression → Field
  taken : Token → Field

-- a line as it is written: the digits of the client, whether it asks, the name of the gate, and the fields
pub record Line : Type 0 where
  pub client : List ℕ
  pub asks : Bool
  pub gate : List ℕ
  pub fields : List Field

abbrev pub field_in : Tree → Field
field_in (left (both k e)) = given (expressions.expression e)
field_in (right (both k (leaf sort))) = taken sort
field_in t = given nothing

abbrev pub fields_in : Tree → List Field
fields_in (more x rest) = field_in x ∷ fields_in rest
fields_in t = []

-- the name of the gate and the fields of an offer
abbrev pub gate_in : Tree → List ℕ
gate_in (both (leaf gate) fields) = gate.text
gate_in t = []

abbrev pub offered_in : Tree → List Field
offered_in (both gate fields) = fields_in fields
offered_in t = []

abbrev pub text_in : Tree → Option (List ℕ)
text_in (present (leaf token)) = Some token.text
text_in t = None

-- of two identifiers the first is the word `ask`, in letters of either case
abbrev pub is_word_before : Option (List ℕ) → List ℕ → Bool
is_word_before None word = true
is_word_before (Some gate) word = is_same_name word (codes "ask")

-- The client is decimal digits without leading zeros. Of two identifiers the second is the gate; one alone is the gate.
abbrev pub line_of : List ℕ → List ℕ → Option (List ℕ) → List Field → Option Line
line_of client word second fields =
    if is_number client && is_word_before second word
    then Some (record { client = client; asks = is_some second; gate = unwrap_or second word; fields = fields })
    else None

-- what a tree of a line says
abbrev pub line_in : Tree → Option Line
line_in (both (leaf client) (both k (both (leaf word) (both second fields)))) =
    line_of client.text word.text (text_in second) (fields_in fields)
line_in t = None

-- an empty line, or a remark, whose first byte is `#`
abbrev pub is_skipped : List ℕ → Bool
is_skipped [] = true
is_skipped (b ∷ bs) = b == 35

-- a line of the grammar: it is skipped, or it says this
pub data IsLine (text : List ℕ) : Option Line → Type 0 where
  skipped : is_skipped text ≡ true → IsLine text None
  says : (tree : Tree) (l : Line) → is_skipped text ≡ false → IsTextOf wish_line text tree → line_in tree ≡ Some l → IsLine text (Some l)

-- the line is none of the grammar
pub record IsNoLine (text : List ℕ) : Type 0 where
  pub none : (said : Option Line) → IsLine text said → ⊥
