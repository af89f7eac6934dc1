use Rattle.std.proofs.Common.{◌≡◌, ◌++◌, map, take}
use Rattle.std.specs.List.{flat_map}
use Rattle.static_call_cycles.specs.Unguarded.{call_refusals}
use Rattle.static_call_cycles.proofs.unguarded.add_all_refused.Given as goal

abbrev pub invariant-loop-call : goal.invariant-loop-call
invariant-loop-call l = l.refusals.items ≡ l.initial.refusals.items
    ++ flat_map (call_refusals (map (λ n. n.now) l.names) l.links l.caller) (take l.call-index l.calls)
