-- What the parts of a line stand for, as they are read.
use Rattle.std.specs.Prelude.{ℕ, Bool, ◌&&◌, option_map, is_some, unwrap_or, map}
use Rattle.lotos_ast.specs.ExpressionTrees.{expr_tree}
use Rattle.lotos_ast.specs.ListTrees.{behind, repeated_tree, optional_token_tree}
use Rattle.lotos_ast.specs.Reads.{Tree, leaf, both, left, right}
use Rattle.sort_overloads.specs.Expressions.{expression}
use Rattle.script_text.specs.declared.written.WrittenField.{WrittenField}
use Rattle.script_text.specs.declared.written.WrittenField.TheVariants.{Value, Sort}
use Rattle.script_text.specs.declared.written.WrittenLine.{WrittenLine}
use Rattle.script_text.specs.declared.written.WrittenOffer.{WrittenOffer}
use Rattle.script_text.specs.declared.wish.Wish.{Wish}
use Rattle.script_text.specs.Numbers.{is_number}
use Rattle.script_text.specs.Wishes.{ClientWish, wished_of}
use Rattle.script_text.specs.Written.{Field, given, taken, Line, is_word_before}

-- the tree of a field, and what the field says
abbrev pub field_tree : WrittenField → Tree
field_tree (Value e) = left (behind (expr_tree e))
field_tree (Sort token) = right (behind (leaf token))

abbrev pub field_of : WrittenField → Field
field_of (Value e) = given (expression (expr_tree e))
field_of (Sort token) = taken token

-- the tree of an offer
abbrev pub offer_tree : WrittenOffer → Tree
offer_tree o = both (leaf o.gate) (repeated_tree (map field_tree o.fields.items))

-- the tree of a line
abbrev pub line_tree : WrittenLine → Tree
line_tree l =
    both (leaf l.client) (behind (both (leaf l.word)
    (both (optional_token_tree l.gate) (repeated_tree (map field_tree l.fields.items)))))

-- whether the client is a number, and a word before the gate is the word `ask`
abbrev pub is_said : WrittenLine → Bool
is_said l = is_number l.client.text && is_word_before (option_map (λ t. t.text) l.gate) l.word.text

-- what a line says
abbrev pub line_said : WrittenLine → Line
line_said l = record {
  client = l.client.text;
  asks = is_some l.gate;
  gate = (unwrap_or l.gate l.word).text;
  fields = map field_of l.fields.items;
}

abbrev pub client_wish_of : ℕ × Wish → ClientWish
client_wish_of x = record { client = x.0; wish = wished_of x.1 }
