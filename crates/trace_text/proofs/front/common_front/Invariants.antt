use Rattle.std.proofs.Common.{◌≡◌, ◌+◌, drop}
use Rattle.trace_text.specs.Formats.{common_front}
use Rattle.trace_text.proofs.front.common_front.Given as goal

abbrev pub invariant-loop-i : goal.invariant-loop-i
invariant-loop-i l = common_front l.text l.other ≡ l.i + common_front (drop l.i l.text) (drop l.i l.other)
