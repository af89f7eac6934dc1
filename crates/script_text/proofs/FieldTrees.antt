-- What the tree of a line says is what the line says.
use Rattle.std.proofs.Common.{ℕ, ◌≡◌, List, [], ◌∷◌, Bool, true, false, ◌&&◌, Option, Some, None, map, refl, sym, ap, ◌∙◌, if◌then◌else◌}
use Rattle.std.specs.Prelude.{is_some, option_map, unwrap_or}
use Rattle.lotos_ast.specs.declared.token.Token.{Token}
use Rattle.lotos_ast.specs.ListTrees.{repeated_tree, optional_token_tree}
use Rattle.script_text.specs.declared.written.WrittenField.{WrittenField}
use Rattle.script_text.specs.declared.written.WrittenField.TheVariants.{Value, Sort}
use Rattle.script_text.specs.declared.written.WrittenLine.{WrittenLine}
use Rattle.script_text.specs.Numbers.{is_number}
use Rattle.script_text.specs.Texts.{IsTextOf, IsNoTextOf}
use Rattle.script_text.specs.Views.{field_tree, field_of, line_tree, is_said, line_said}
use Rattle.script_text.specs.Written.{Field, Line, wish_line, field_in, fields_in, text_in, line_of, line_in, is_word_before, is_skipped, IsLine, IsNoLine, skipped, says}
use Rattle.script_text.proofs.WholeTexts.{one_text}

field_said : (f : WrittenField) → field_in (field_tree f) ≡ field_of f
field_said (Value e) = refl
field_said (Sort token) = refl

pub fields_said : (fs : List WrittenField) → fields_in (repeated_tree (map field_tree fs)) ≡ map field_of fs
fields_said [] = refl
fields_said (f ∷ fs) = ap (λ x. x ∷ fields_in (repeated_tree (map field_tree fs))) (field_said f) ∙ ap (λ xs. field_of f ∷ xs) (fields_said fs)

-- by whether there is a second identifier
by_gate : (client word : Token) (gate : Option Token) (fields : List Field) →
    line_of client.text word.text (text_in (optional_token_tree gate)) fields
    ≡ (if is_number client.text && is_word_before (option_map (λ t. t.text) gate) word.text
    then Some (record { client = client.text; asks = is_some gate; gate = (unwrap_or gate word).text; fields = fields }) else None)
by_gate client word None fields = refl
by_gate client word (Some gate) fields = refl

pub line_is : (l : WrittenLine) → line_in (line_tree l) ≡ (if is_said l then Some (line_said l) else None)
line_is l =
    ap (λ fields. line_of l.client.text l.word.text (text_in (optional_token_tree l.gate)) fields) (fields_said l.fields.items)
    ∙ by_gate l.client l.word l.gate (map field_of l.fields.items)

chosen : {A : Type 0} (b : Bool) (x y : A) → b ≡ true → (if b then x else y) ≡ x
chosen b x y e = ap (λ (c : Bool). if c then x else y) e

unchosen : {A : Type 0} (b : Bool) (x y : A) → b ≡ false → (if b then x else y) ≡ y
unchosen b x y e = ap (λ (c : Bool). if c then x else y) e

-- a line that is read, and whose client and word are right, says this
pub right_line : (text : List ℕ) (l : WrittenLine) → is_skipped text ≡ false → IsTextOf wish_line text (line_tree l) → is_said l ≡ true →
    IsLine text (Some (line_said l))
right_line text l heard h e = says (line_tree l) (line_said l) heard h (line_is l ∙ chosen (is_said l) (Some (line_said l)) None e)

not_heard : (text : List ℕ) → is_skipped text ≡ false → is_skipped text ≡ true → ⊥
not_heard text e h = cc

wrong_of : (text : List ℕ) (l : WrittenLine) → is_skipped text ≡ false → IsTextOf wish_line text (line_tree l) → is_said l ≡ false →
    (said : Option Line) → IsLine text said → ⊥
wrong_of text l heard h e None (skipped k) = not_heard text heard k
wrong_of text l heard h e (Some m) (says tree n k i j) =
    let same : line_in tree ≡ None = ap line_in (one_text i h) ∙ line_is l ∙ unchosen (is_said l) (Some (line_said l)) None e in
    let both : Some m ≡ None = sym j ∙ same in cc

none_of : (text : List ℕ) → is_skipped text ≡ false → IsNoTextOf wish_line text → (said : Option Line) → IsLine text said → ⊥
none_of text heard h None (skipped k) = not_heard text heard k
none_of text heard h (Some m) (says tree n k i j) = h.none tree i

-- a line that is read, whose client or word is wrong, is none of the grammar
pub wrong_line : (text : List ℕ) (l : WrittenLine) → is_skipped text ≡ false → IsTextOf wish_line text (line_tree l) → is_said l ≡ false →
    IsNoLine text
wrong_line text l heard h e = record { none = wrong_of text l heard h e }

-- and so is a text that is no line
pub no_line : (text : List ℕ) → is_skipped text ≡ false → IsNoTextOf wish_line text → IsNoLine text
no_line text heard h = record { none = none_of text heard h }

pub number_said : (l : WrittenLine) → is_said l ≡ true → is_number l.client.text ≡ true
number_said l e = first (is_number l.client.text) (is_word_before (option_map (λ t. t.text) l.gate) l.word.text) e
  where
    first : (x y : Bool) → (x && y) ≡ true → x ≡ true
    first true y h = refl
    first false y h = h

pub ruleset line_steps = (right_line, wrong_line, no_line, number_said)
