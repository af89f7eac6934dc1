use Rattle.std.proofs.Common.{◌≡◌, [], map}
use Rattle.std.specs.List.{slice_index_or, range_with_len}
use Rattle.type_cycles.specs.Cycles.{way_from}
use Rattle.type_cycles.proofs.ways.next_ways.Given as goal

abbrev pub invariant-loop-number : goal.invariant-loop-number
invariant-loop-number l = l.all.items ≡ map (λ k. way_from l.ways k (slice_index_or l.links k [])) (range_with_len 0 l.number)
