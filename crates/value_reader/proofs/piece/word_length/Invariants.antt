use Rattle.std.proofs.Common.{take}
use Rattle.value_reader.specs.Views.{AreNameBytes}
use Rattle.value_reader.proofs.piece.word_length.Given as goal

abbrev pub invariant-loop-i : goal.invariant-loop-i
invariant-loop-i l = AreNameBytes (take l.i l.text)
