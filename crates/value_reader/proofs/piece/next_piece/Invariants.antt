use Rattle.std.proofs.Common.{◌≡◌, drop}
use Rattle.value_reader.specs.Items.{pieces}
use Rattle.value_reader.proofs.piece.next_piece.Given as goal

abbrev pub invariant-loop-i : goal.invariant-loop-i
invariant-loop-i l = pieces l.text ≡ pieces (drop l.i l.text)
