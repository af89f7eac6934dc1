use Rattle.std.proofs.Common.{◌≡◌, map, take}
use Rattle.symbolic_plans.specs.Plans.{field_of}
use Rattle.symbolic_plans.proofs.column.copy_columns.Given as goal

abbrev pub invariant-loop-column : goal.invariant-loop-column
invariant-loop-column l = map field_of l.all.items ≡ map field_of (take l.column-index l.columns)
