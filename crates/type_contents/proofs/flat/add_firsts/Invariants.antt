use Rattle.std.proofs.Common.{◌≡◌, map, take}
use Rattle.std.specs.List.{fold}
use Rattle.type_contents.specs.Lists.{with_one}
use Rattle.type_contents.specs.Items.{is_same_described}
use Rattle.type_contents.specs.Views.{described_of, AreItemsOf}
use Rattle.type_contents.proofs.flat.add_firsts.Given as goal

abbrev pub invariant-loop-one : goal.invariant-loop-one
invariant-loop-one l = record {
  all : map described_of l.all.items ≡ fold (with_one is_same_described) (map described_of l.initial.all.items) (map described_of (take l.one-index l.entries));
  found : AreItemsOf l.found.keys (map described_of l.all.items);
}
