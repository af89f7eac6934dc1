use Rattle.std.proofs.Common.{take}
use Rattle.trace_reader.specs.Lines.{IsOneLine}
use Rattle.trace_reader.proofs.line.first_line.Given as goal

abbrev pub invariant-loop-i : goal.invariant-loop-i
invariant-loop-i l = IsOneLine (take l.i l.text)
