use Rattle.std.proofs.Common.{◌≡◌, take}
use Rattle.static_readings.specs.Sites.{with_gates}
use Rattle.static_readings.proofs.site.Site.put_gates.Given as goal

abbrev pub invariant-loop-gate : goal.invariant-loop-gate
invariant-loop-gate l = l.self ≡ with_gates l.fn.self (take l.gate-index l.gates)
