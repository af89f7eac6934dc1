use Rattle.std.proofs.Common.{◌≡◌, map}
use Rattle.std.specs.List.{flat_map}
use Rattle.static_readings.specs.Views.{fields_of}
use Rattle.static_readings.proofs.fields.joined.Given as goal

abbrev pub invariant-loop-one : goal.invariant-loop-one
invariant-loop-one l = fields_of l.all ≡ flat_map (λ all. all) (map fields_of l.yielded)
