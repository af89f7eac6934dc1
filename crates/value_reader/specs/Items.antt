-- From the bytes of a text to its words and marks.
use Rattle.std.specs.Prelude.{ℕ, ◌==◌, ◌&&◌, Bool, true, false, if◌then◌else◌, List, [], ◌∷◌, codes}
use Rattle.value_text.specs.Bytes.{is_name_byte}
use Rattle.std.specs.Str.{bytes_eq}

-- a word, a mark of punctuation, the sort that follows the word `of`, or any other byte
pub data Piece : Type 0 where
  word : List ℕ → Piece
  opening : Piece
  closing : Piece
  comma : Piece
  of_sort : List ℕ → Piece
  other : Piece

-- a byte of a name comes first
abbrev pub begins_word : List ℕ → Bool
begins_word [] = false
begins_word (b ∷ bs) = is_name_byte b

abbrev pub mark : ℕ → Piece
mark b = if b == 40 then opening else if b == 41 then closing else if b == 44 then comma else other

-- a byte before the first piece, a word
abbrev pub longer : ℕ → List Piece → List Piece
longer b (word w ∷ ps) = word (b ∷ w) ∷ ps
longer b ps = word (b ∷ []) ∷ ps

abbrev pub joined_to : Bool → ℕ → List Piece → List Piece
joined_to true b ps = longer b ps
joined_to false b ps = word (b ∷ []) ∷ ps

-- the longest words of a text, and each other byte but blanks
abbrev pub pieces : List ℕ → List Piece
pieces [] = []
pieces (b ∷ bs) =
    if is_name_byte b then joined_to (begins_word bs) b (pieces bs) else if b == 32 then pieces bs else mark b ∷ pieces bs

abbrev pub is_of : Piece → Bool
is_of (word w) = bytes_eq w (codes "of")
is_of p = false

abbrev pub is_word : Piece → Bool
is_word (word w) = true
is_word p = false

abbrev pub as_sort : Piece → Piece
as_sort (word w) = of_sort w
as_sort p = p

-- the same, with the word `of` and the word behind it as one
abbrev pub items_in : List Piece → List Piece
items_in [] = []
items_in (p ∷ []) = p ∷ []
items_in (p ∷ q ∷ ps) = if is_of p && is_word q then as_sort q ∷ items_in ps else p ∷ items_in (q ∷ ps)

abbrev pub items : List ℕ → List Piece
items bs = items_in (pieces bs)
