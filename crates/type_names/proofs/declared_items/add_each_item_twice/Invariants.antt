use Rattle.std.proofs.Common.{◌≡◌, ◌++◌, [], map}
use Rattle.type_contents.specs.Views.{described_of}
use Rattle.type_names.specs.DuplicateNames.{item_twice}
use Rattle.type_names.specs.NameSets.{IsItemSetOf}
use Rattle.type_names.specs.Refused.{each_after}
use Rattle.type_names.proofs.declared_items.add_each_item_twice.Given as goal

abbrev pub invariant-loop-declared : goal.invariant-loop-declared
invariant-loop-declared l = record {
  refusals : l.refusals.items ≡ l.initial.refusals.items ++ each_after item_twice [] (map described_of l.yielded);
  before : IsItemSetOf l.before (map described_of l.yielded);
}
