use Rattle.std.proofs.Common.{◌≡◌, ◌++◌, length, map, reverse}
use Rattle.spec_core.specs.Numbers.{sort_number}
use Rattle.value_reader.proofs.reading.take_sorts.Given as goal

abbrev pub invariant-taken : goal.invariant-taken
invariant-taken l = record {
  parted : map sort_number l.args.items ++ reverse (map sort_number l.sorts.items) ≡ reverse (map sort_number l.fn.sorts.items);
  counted : length l.args.items ≡ l._taken;
}
