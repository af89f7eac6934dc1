use Rattle.std.proofs.Common.{◌≡◌, ◌++◌, length, reverse}
use Rattle.value_table.proofs.reading.take_rows.Given as goal

abbrev pub invariant-taken : goal.invariant-taken
invariant-taken l = record {
  parted : l.args.items ++ reverse l.rows.items ≡ reverse l.fn.rows.items;
  counted : length l.args.items ≡ l._taken;
}
