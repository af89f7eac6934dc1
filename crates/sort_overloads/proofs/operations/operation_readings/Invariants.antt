use Rattle.std.proofs.Common.{map, take}
use Rattle.std.specs.List.{flat_map}
use Rattle.spec_core.specs.Theories.{operations_of}
use Rattle.sort_overloads.specs.Listed.{StandsFor}
use Rattle.sort_overloads.specs.Tables.{table_of, reading_of}
use Rattle.sort_overloads.proofs.Numbered.{of_number}
use Rattle.sort_overloads.proofs.operations.operation_readings.Given as goal

abbrev pub invariant-loop-number : goal.invariant-loop-number
invariant-loop-number l =
    StandsFor (flat_map (of_number l.spelled (map table_of l.arguments) (operations_of l.signature)) (take l.number-index l.number-items))
    (map (reading_of (map table_of l.arguments)) l.all.items)
