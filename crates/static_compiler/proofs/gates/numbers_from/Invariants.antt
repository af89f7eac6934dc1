use Rattle.std.proofs.Common.{◌≡◌, map}
use Rattle.std.specs.List.{range_with_len}
use Rattle.spec_core.specs.Numbers.{gate_number}
use Rattle.static_compiler.proofs.gates.numbers_from.Given as goal

abbrev pub invariant-loop-i : goal.invariant-loop-i
invariant-loop-i l = map gate_number l.gates.items ≡ range_with_len l.first l.i
