use Rattle.std.proofs.Common.{◌≡◌, map, take}
use Rattle.static_readings.specs.Offers.{offered_names}
use Rattle.static_compiler.proofs.names.offered_names.Given as goal

abbrev pub invariant-loop-one : goal.invariant-loop-one
invariant-loop-one l = map (λ t. t.now) l.all.items ≡ offered_names (take l.one-index l.from)
