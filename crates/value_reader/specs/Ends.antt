-- What may follow the text of a value.
use Rattle.std.specs.Prelude.{ℕ, ◌&&◌, Bool, true, false, List, [], ◌∷◌, nat_eq}
use Rattle.std.specs.List.{list_any}
use Rattle.value_reader.specs.Items.{Piece, word, opening, closing, comma, of_sort, other, items}

-- nothing, the end of a line, a blank, `)`, `,` or `]`
abbrev pub ends_there : List ℕ → Bool
ends_there [] = true
ends_there (b ∷ bs) = list_any (nat_eq b) (10 ∷ 32 ∷ 41 ∷ 44 ∷ 93 ∷ [])

-- neither arguments nor a sort
abbrev pub goes_no_further : List Piece → Bool
goes_no_further [] = true
goes_no_further (word w ∷ ps) = true
goes_no_further (opening ∷ ps) = false
goes_no_further (closing ∷ ps) = true
goes_no_further (comma ∷ ps) = true
goes_no_further (of_sort w ∷ ps) = false
goes_no_further (other ∷ ps) = true

abbrev pub ends_value : List ℕ → Bool
ends_value bs = ends_there bs && goes_no_further (items bs)
