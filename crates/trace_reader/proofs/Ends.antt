-- What may follow the parts of a line.
use Rattle.std.proofs.Common.{ℕ, ◌≡◌, ◌&&◌, Bool, true, false, List, [], ◌∷◌, ◌++◌, codes, Option, Some, None, refl, sym, subst, flat_map, if◌then◌else◌}
use Rattle.std.proofs.lemmas.Bool.{and_parts}
use Rattle.value_reader.specs.Ends.{ends_there, goes_no_further}
use Rattle.value_reader.specs.Items.{Piece, word, opening, closing, comma, of_sort, other, items, items_in, pieces, as_sort, is_of, is_word}
use Rattle.value_reader.proofs.Values.{ends_term}
use Rattle.value_text.proofs.Names.{EndsTerm}
use Rattle.rule_model.specs.Events.{OfferName}
use Rattle.rule_model.specs.declared.offer.Field.{Field}
use Rattle.rule_model.specs.declared.offer.Field.TheVariants.{Give, Take}
use Rattle.rule_model.specs.declared.rules.Slot.{Slot}
use Rattle.trace_text.specs.Trace.{Names, by_text, field_text, name_text, slot_text}
use Rattle.trace_reader.specs.Cursors.{EndsBy, EndsFields, EndsSlots, EndsTree, EndsValue, IsNothing, further_texts, given_text}
use Rattle.trace_reader.specs.Digits.{EndsNumber}

-- a value ends before any piece but an opening bracket and a sort
first_piece : (p : Piece) (ps : List Piece) → is_of p ≡ false → goes_no_further (p ∷ []) ≡ true → goes_no_further (items_in (p ∷ ps)) ≡ true
first_piece (word w) [] f h = refl
first_piece (word w) (q ∷ ps) f h = go (is_of (word w)) f
  where
    go : (b : Bool) → b ≡ false → goes_no_further (if b && is_word q then as_sort q ∷ items_in ps else word w ∷ items_in (q ∷ ps)) ≡ true
    go true e = absurd (cc)
    go false e = refl
first_piece opening ps f h = absurd (cc)
first_piece closing [] f h = refl
first_piece closing (q ∷ ps) f h = refl
first_piece comma [] f h = refl
first_piece comma (q ∷ ps) f h = refl
first_piece (of_sort w) ps f h = absurd (cc)
first_piece other [] f h = refl
first_piece other (q ∷ ps) f h = refl

pub nothing_fields : (rest : List ℕ) → IsNothing rest → EndsFields rest
nothing_fields rest e = subst EndsFields (sym e) (refl, refl, refl)

pub nothing_number : (rest : List ℕ) → IsNothing rest → EndsNumber rest
nothing_number rest e = subst EndsNumber (sym e) refl

pub nothing_tree : (rest : List ℕ) → IsNothing rest → EndsTree rest
nothing_tree rest e = subst EndsTree (sym e) refl

pub nothing_value : (rest : List ℕ) → IsNothing rest → EndsValue rest
nothing_value rest e = subst EndsValue (sym e) refl

-- behind a value, and behind a name
pub value_term : (rest : List ℕ) → EndsValue rest → EndsTerm rest
value_term rest h = ends_term rest (and_parts (ends_there rest) (goes_no_further (items rest)) h).0

-- the offer that an action takes, and what is behind it
pub by_ends : (by : Option OfferName) (rest : List ℕ) → EndsFields (by_text by ++ (codes " rules " ++ rest))
by_ends None rest = (refl, refl, first_piece (word (codes "rules")) (pieces (32 ∷ rest)) refl refl)
by_ends (Some name) rest = (refl, refl, first_piece (word (codes "by")) (pieces (32 ∷ (name_text name ++ (codes " rules " ++ rest)))) refl refl)

pub rules_by : (rest : List ℕ) → EndsBy (codes " rules " ++ rest)
rules_by rest = (refl, refl)

module _ (names : Names) where
  pub fields_go : (fields : List Field) (rest : List ℕ) → EndsFields rest → EndsValue (flat_map (field_text names) fields ++ rest)
  fields_go [] rest h = h.2
  fields_go (Give v ∷ fields) rest h =
      first_piece other (pieces ((names.value v ++ flat_map (field_text names) fields) ++ rest)) refl refl
  fields_go (Take sort ∷ fields) rest h =
      first_piece other (pieces ((names.sort sort ++ flat_map (field_text names) fields) ++ rest)) refl refl

  pub values_go : (values : List (List ℕ)) (rest : List ℕ) → EndsFields rest → EndsValue (flat_map (given_text names) values ++ rest)
  values_go [] rest h = h.2
  values_go (v ∷ values) rest h =
      first_piece other (pieces ((names.value v ++ flat_map (given_text names) values) ++ rest)) refl refl

  pub slots_go : (slots : List Slot) (rest : List ℕ) → EndsSlots rest → EndsValue (further_texts names slots ++ rest)
  slots_go [] rest h = h.1
  slots_go (x ∷ slots) rest h = first_piece comma (pieces ((slot_text names x ++ further_texts names slots) ++ rest)) refl refl

pub square_slots : (rest : List ℕ) → EndsSlots (codes "]" ++ rest)
square_slots rest = (refl, first_piece other (pieces rest) refl refl)

pub names_go : (names : List OfferName) (rest : List ℕ) → IsNothing rest → EndsNumber (flat_map (λ name. codes " " ++ name_text name) names ++ rest)
names_go [] rest h = nothing_number rest h
names_go (x ∷ names) rest h = refl
