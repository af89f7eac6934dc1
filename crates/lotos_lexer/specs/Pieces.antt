-- The pieces of the program, as the definition has them.
use Rattle.std.specs.Prelude.{ℕ, ◌<◌, ◌≤◌}
use Rattle.lotos_ast.specs.Pieces.{Piece, nothing, gap, spelling, stray, unclosed}
use Rattle.lotos_lexer.specs.declared.piece.Piece.{Piece as FoundPiece}
use Rattle.lotos_lexer.specs.declared.piece.Piece.TheVariants.{Nothing, Gap, Spelling, Stray, Unclosed}

abbrev pub piece_of : FoundPiece → Piece
piece_of Nothing = nothing
piece_of (Gap n) = gap n
piece_of (Spelling kind n) = spelling kind n
piece_of (Stray b) = stray b
piece_of Unclosed = unclosed

-- a piece has at least one byte, and at most so many
abbrev pub IsWithin : FoundPiece → ℕ → Type 0
IsWithin Nothing m = Unit {0}
IsWithin (Gap n) m = (0 < n) × (n ≤ m)
IsWithin (Spelling kind n) m = (0 < n) × (n ≤ m)
IsWithin (Stray b) m = Unit {0}
IsWithin Unclosed m = Unit {0}
