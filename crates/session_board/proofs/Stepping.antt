-- What a step does with the board.
use Rattle.std.proofs.Common.{ℕ, ◌≡◌, false, Option, Some, None, is_some}
use Rattle.std.specs.Prelude.{IfNone}
use Rattle.board_core.specs.Settled.{IsQuiet}
use Rattle.board_core.specs.Views.{BoardView}

pub was_quiet : (a b : BoardView) (o : Option ℕ) → is_some o ≡ false → IfNone o (IsQuiet a b) → IsQuiet a b
was_quiet a b None e h = h
was_quiet a b (Some m) e h = let never : ⊥ = cc in absurd never
