use Rattle.std.proofs.Common.{◌≡◌, map, [], Some, None, nat_eq}
use Rattle.std.specs.Prelude.{if◌then◌else◌}
use Rattle.std.specs.List.{range_with_len}
use Rattle.type_cycles.proofs.ways.first_ways.Given as goal

abbrev pub invariant-loop-from : goal.invariant-loop-from
invariant-loop-from l = l.all.items ≡ map (λ k. if nat_eq k l.to then Some [] else None) (range_with_len 0 l.from)
