use Rattle.std.proofs.Common.{◌≡◌, map, take}
use Rattle.static_call_cycles.specs.Unguarded.{links}
use Rattle.static_call_cycles.proofs.unguarded.links.Given as goal

abbrev pub invariant-loop-calls : goal.invariant-loop-calls
invariant-loop-calls l = l.links.items ≡ links (map (λ calls. calls.items) (take l.calls-index l.all))
