use Rattle.std.proofs.Common.{◌≡◌, take}
use Rattle.static_call_cycles.specs.Unguarded.{called}
use Rattle.static_call_cycles.proofs.unguarded.called.Given as goal

abbrev pub invariant-loop-call : goal.invariant-loop-call
invariant-loop-call l = l.numbers.items ≡ called (take l.call-index l.calls)
