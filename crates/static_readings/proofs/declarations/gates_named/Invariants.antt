use Rattle.std.proofs.Common.{◌≡◌, map, drop, Some}
use Rattle.spec_core.specs.Numbers.{gate_number}
use Rattle.static_readings.specs.Declarations.{gate_numbers}
use Rattle.static_readings.specs.ReadsAll.{all_before}
use Rattle.static_readings.proofs.declarations.gates_named.Given as goal

abbrev pub invariant-loop-name : goal.invariant-loop-name
invariant-loop-name l = all_before (Some (map gate_number l.all.items)) (gate_numbers l.site (drop l.name-index l.names)) ≡ gate_numbers l.site l.names
