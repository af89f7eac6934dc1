-- What a source has left.
use Rattle.std.specs.Prelude.{ℕ, ◌<◌, List, [], ◌∷◌, ◌++◌, map, length, Option, Vec, option_map}
use Rattle.std.specs.declared.alloc.Global.{Global}

-- what a source has left, where it tells it, with these bytes before it
abbrev pub with_first : List ℕ → Option (List ℕ) → Option (List ℕ)
with_first bytes rest = option_map (λ left. bytes ++ left) rest

-- A source in memory: the pieces that are left, of which a call gives at most the rest of one; the numbers of the calls
-- that fail; how many calls there were; and how many faults.
pub record SourceState : Type 0 where
  pub pieces : List (List ℕ)
  pub fails : List ℕ
  pub calls : ℕ
  pub faults : ℕ

-- the bytes of each piece
abbrev pub pieces_of : List (Vec ℕ Global) → List (List ℕ)
pieces_of pieces = map (λ piece. piece.items) pieces

-- the first piece that isn't empty, or the empty one
abbrev pub next_piece : List (List ℕ) → List ℕ
next_piece [] = []
next_piece ([] ∷ pieces) = next_piece pieces
next_piece ((byte ∷ bytes) ∷ pieces) = byte ∷ bytes

-- no empty piece stands at the front
abbrev pub BeginsFilled : List (List ℕ) → Type 0
BeginsFilled [] = Unit {0}
BeginsFilled (piece ∷ pieces) = 0 < length piece
