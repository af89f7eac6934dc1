use Rattle.std.proofs.Common.{◌≡◌, take, map}
use Rattle.std.specs.List.{flat_map}
use Rattle.type_names.specs.TypeCycles.{name_at}
use Rattle.type_names.proofs.cycle_refusal.names_at.Given as goal

abbrev pub invariant-loop-number : goal.invariant-loop-number
invariant-loop-number l = map (λ t. t.now) l.all.items ≡ flat_map (name_at l.types) (take l.number-index l.numbers)
