use Rattle.std.proofs.Common.{◌≡◌, map, take}
use Rattle.spec_core.specs.Code.{accept}
use Rattle.static_readings.specs.Declarations.{numbered_from}
use Rattle.static_readings.specs.Views.{fields_of}
use Rattle.static_readings.proofs.fields.taken.Given as goal

abbrev pub invariant-loop-i : goal.invariant-loop-i
invariant-loop-i l = fields_of l.fields ≡ map accept (numbered_from l.number (map (λ t. record { name = t.text; sort = l.sort.0 }) (take l.i l.names)))
