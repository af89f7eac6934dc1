use Rattle.std.proofs.Common.{◌≡◌, map, not}
use Rattle.std.specs.List.{filter}
use Rattle.type_contents.specs.Items.{is_sort}
use Rattle.type_contents.specs.Views.{described_of}
use Rattle.type_contents.proofs.flat.by_kind.Given as goal

abbrev pub invariant-loop-one : goal.invariant-loop-one
invariant-loop-one l = record {
  sorts : map described_of l.sorts.items ≡ filter (λ d. is_sort d.item) (map described_of l.yielded);
  operations : map described_of l.operations.items ≡ filter (λ d. not (is_sort d.item)) (map described_of l.yielded);
}
