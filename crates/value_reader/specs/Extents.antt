-- How far the text of a term goes.
use Rattle.std.specs.Prelude.{ℕ, zero, suc, List, [], ◌∷◌}
use Rattle.value_reader.specs.Items.{Piece, word, opening, closing, of_sort, other}

-- at the beginning, behind the first word, behind its arguments, or in so many brackets and one
pub data Place : Type 0 where
  start : Place
  behind_word : Place
  behind_arguments : Place
  inside : ℕ → Place

-- whether the term goes on with a piece
pub data Next : Type 0 where
  stops : Next
  ends : Next
  goes_on : Place → Next

abbrev pub next : Place → Piece → Next
next start (word w) = goes_on behind_word
next start opening = goes_on (inside 0)
next start p = stops
next behind_word opening = goes_on (inside 0)
next behind_word (of_sort s) = ends
next behind_word p = stops
next behind_arguments (of_sort s) = ends
next behind_arguments p = stops
next (inside n) opening = goes_on (inside (suc n))
next (inside zero) closing = goes_on behind_arguments
next (inside (suc n)) closing = goes_on (inside n)
next (inside n) other = stops
next (inside n) p = goes_on (inside n)

abbrev pub with_piece : Piece → Next → (Place → List Piece) → List Piece
with_piece p stops more = []
with_piece p ends more = p ∷ []
with_piece p (goes_on place) more = p ∷ more place

-- the pieces of the term with which a text begins
abbrev pub extent : List Piece → Place → List Piece
extent [] place = []
extent (p ∷ ps) place = with_piece p (next place p) (extent ps)
