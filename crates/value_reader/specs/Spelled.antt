-- The pieces of a term's text.
use Rattle.std.specs.Prelude.{ℕ, if◌then◌else◌, List, [], ◌∷◌, ◌++◌, Option, Some, None}
use Rattle.std.specs.List.{slice_get}
use Rattle.spec_core.specs.TermText.{infix_at}
use Rattle.spec_core.specs.Terms.{TermTree, TermTrees, variable, apply, no_terms, and_term, width}
use Rattle.spec_core.specs.Theories.{Operation, Theory}
use Rattle.value_text.specs.Values.{is_shared, name_at}
use Rattle.value_reader.specs.Items.{Piece, word, opening, closing, comma, of_sort}

-- further arguments, each behind a comma, and the bracket behind the last one
abbrev pub more_pieces : List (List Piece) → List Piece
more_pieces [] = closing ∷ []
more_pieces (x ∷ xs) = comma ∷ (x ++ more_pieces xs)

-- an operation of this name over arguments with these pieces: the name stands before them, or this word between two
abbrev pub call_pieces : List ℕ → Option (List ℕ) → List (List Piece) → List Piece
call_pieces name None [] = word name ∷ []
call_pieces name None (x ∷ xs) = word name ∷ opening ∷ (x ++ more_pieces xs)
call_pieces name (Some w) (x ∷ y ∷ []) = opening ∷ (x ++ word w ∷ (y ++ closing ∷ []))
call_pieces name (Some w) xs = []

module _ (theory : Theory) where
  -- the sort, where it is written
  abbrev pub sort_pieces : Operation → List Piece
  sort_pieces d = if is_shared theory.operations d then of_sort (name_at theory.sorts d.result) ∷ [] else []

  abbrev pub pieces_over : Option Operation → ℕ → List (List Piece) → List Piece
  pieces_over None n xs = []
  pieces_over (Some d) n xs = call_pieces d.name (infix_at d.name n) xs ++ sort_pieces d

  abbrev mutual
    pub pieces_of : TermTree → List Piece
    pieces_of (variable x) = []
    pieces_of (apply f ts) = pieces_over (slice_get theory.operations f) (width ts) (pieces_of_all ts)

    pub pieces_of_all : TermTrees → List (List Piece)
    pieces_of_all no_terms = []
    pieces_of_all (and_term t ts) = pieces_of t ∷ pieces_of_all ts
