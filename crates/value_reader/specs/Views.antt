-- What the program's values stand for, without their places in memory.
use Rattle.std.specs.Prelude.{ℕ, ◌≡◌, Bool, true, false, List, map, reverse, Option, Some, None}
use Rattle.value_text.specs.Bytes.{is_name_byte}
use Rattle.std.specs.Borrow.{Bor}
use Rattle.spec_core.specs.Numbers.{op_number, sort_number}
use Rattle.spec_core.specs.Lists.{Each}
use Rattle.value_reader.specs.declared.piece.Piece as declared_piece
use Rattle.value_reader.specs.declared.piece.Piece.TheVariants.{Word, Opening, Closing, Comma, OfSort, Other}
use Rattle.value_reader.specs.declared.extent.Place as declared_place
use Rattle.value_reader.specs.declared.extent.Place.TheVariants.{Start, BehindWord, BehindArguments, Inside}
use Rattle.value_reader.specs.declared.extent.Next as declared_next
use Rattle.value_reader.specs.declared.extent.Next.TheVariants.{Stops, Ends, GoesOn}
use Rattle.value_reader.specs.declared.reading.Stand as declared_stand
use Rattle.value_reader.specs.declared.reading.Stand.TheVariants.{Expects, HasTerm, Calls}
use Rattle.value_reader.specs.declared.reading.Bracket as declared_bracket
use Rattle.value_reader.specs.declared.reading.Reading as declared_reading
use Rattle.value_reader.specs.Extents.{Place, start, behind_word, behind_arguments, inside, Next, stops, ends, goes_on}
use Rattle.value_reader.specs.Stands.{Bracket, Stand, expects, has_term, calls, State, applied}
use Rattle.spec_core.specs.declared.equation.DataSpec.{DataSpec}
use Rattle.spec_core.specs.Theories.{theory_of}
use Rattle.value_reader.specs.Items.{Piece, word, opening, closing, comma, of_sort, other}

abbrev pub piece_of : declared_piece.Piece → Piece
piece_of (Word w) = word w.now
piece_of Opening = opening
piece_of Closing = closing
piece_of Comma = comma
piece_of (OfSort w) = of_sort w.now
piece_of Other = other

-- bytes of names alone
abbrev pub AreNameBytes : List ℕ → Type 0
AreNameBytes bs = Each (λ b. is_name_byte b ≡ true) bs

abbrev pub place_of : declared_place.Place → Place
place_of Start = start
place_of BehindWord = behind_word
place_of BehindArguments = behind_arguments
place_of (Inside depth) = inside depth

abbrev pub next_of : declared_next.Next → Next
next_of Stops = stops
next_of Ends = ends
next_of (GoesOn place) = goes_on (place_of place)

abbrev pub bytes_of : Option (Bor (List ℕ)) → Option (List ℕ)
bytes_of None = None
bytes_of (Some bytes) = Some bytes.now

abbrev pub stand_of : declared_stand.Stand → Stand
stand_of (Expects sort) = expects (bytes_of sort)
stand_of HasTerm = has_term
stand_of (Calls sort base) = calls (bytes_of sort) base

abbrev pub bracket_of : declared_bracket.Bracket → Bracket
bracket_of b = record { sort = bytes_of b.sort; base = b.base; between = bytes_of b.between }

abbrev pub state_of : declared_reading.Reading → State
state_of r = record {
  stand = stand_of r.stand;
  brackets = reverse (map bracket_of r.brackets.items);
  sorts = reverse (map sort_number r.sorts.items);
  value = reverse (map op_number r.ops.items);
}

-- the step was made, or there is none
abbrev pub Took : Bool → Option State → State → Type 0
Took true step s = step ≡ Some s
Took false step s = step ≡ None

abbrev pub applied_in : DataSpec → List ℕ → ℕ → Option (List ℕ) → State → Option State
applied_in algebra name base sort s = applied (theory_of algebra) name base sort s.brackets s.sorts s.value
