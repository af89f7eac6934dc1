use Rattle.std.proofs.Common.{◌≡◌, ◌-◌, drop}
use Rattle.spec_core.specs.Lists.{Each}
use Rattle.spec_core.specs.Theories.{theory_of}
use Rattle.value_table.specs.Spelled.{spelled_from_last}
use Rattle.value_table.specs.Tables.{AreFit, IsLonger, IsRow}
use Rattle.value_table.proofs.reading.read.Given as goal

abbrev pub invariant-loop-done : goal.invariant-loop-done
invariant-loop-done l = record {
  longer : IsLonger l.initial.table l.table;
  fit : AreFit (theory_of l.algebra) l.table;
  there : Each (IsRow l.table) l.rows.items;
  spelled : spelled_from_last l.table l.rows.items ≡ drop (l.count - l.done) l.value;
}
