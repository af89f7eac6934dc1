use Rattle.std.proofs.Common.{◌≡◌, ◌++◌, map, take}
use Rattle.static_call_cycles.specs.Unguarded.{names_of}
use Rattle.static_call_cycles.proofs.unguarded.add_names.Given as goal

abbrev pub invariant-loop-number : goal.invariant-loop-number
invariant-loop-number l = l.all.items ≡ l.initial.all.items ++ names_of (map (λ n. n.now) l.names) (take l.number-index l.numbers)
