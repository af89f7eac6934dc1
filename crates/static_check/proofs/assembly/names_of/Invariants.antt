use Rattle.std.proofs.Common.{◌≡◌, map, take}
use Rattle.static_check.proofs.assembly.names_of.Given as goal

abbrev pub invariant-loop-gate : goal.invariant-loop-gate
invariant-loop-gate l = l.names.items ≡ map (λ t. t.text) (take l.gate-index l.gates)
