use Rattle.std.proofs.Common.{◌≡◌, ◌++◌, map, drop}
use Rattle.spec_core.specs.Code.{variable_of}
use Rattle.sort_overloads.specs.Views.{declared_of}
use Rattle.static_readings.specs.Declarations.{numbered_from}
use Rattle.static_readings.proofs.site.numbered.Given as goal

abbrev pub invariant-loop-i : goal.invariant-loop-i
invariant-loop-i l = map variable_of l.all.items ++ numbered_from l.i (map declared_of (drop l.i l.variables))
    ≡ numbered_from l.first (drop l.first (map declared_of l.variables))
