use Rattle.std.proofs.Common.{◌≡◌, ◌++◌, take}
use Rattle.static_readings.specs.Declarations.{unknown_gates}
use Rattle.static_readings.proofs.declarations.add_unknown_gates.Given as goal

abbrev pub invariant-loop-name : goal.invariant-loop-name
invariant-loop-name l = l.refusals.items ≡ l.initial.refusals.items ++ unknown_gates l.site (take l.name-index l.names)
