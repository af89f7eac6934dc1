use Rattle.std.proofs.Common.{take}
use Rattle.trace_reader.specs.Digits.{AreDigits}
use Rattle.trace_reader.proofs.number.digits_length.Given as goal

abbrev pub invariant-loop-i : goal.invariant-loop-i
invariant-loop-i l = AreDigits (take l.i l.text)
