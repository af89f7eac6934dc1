use Rattle.std.proofs.Common.{◌≡◌, map, [], take}
use Rattle.std.specs.List.{flat_map, fold}
use Rattle.type_contents.specs.Lists.{with_one}
use Rattle.type_contents.specs.Items.{is_same_described}
use Rattle.type_contents.specs.Views.{described_of, brought_at, AreItemsOf}
use Rattle.type_contents.proofs.flat.all_items.Given as goal

abbrev pub invariant-loop-one : goal.invariant-loop-one
invariant-loop-one l = record {
  all : map described_of l.all.items ≡ fold (with_one is_same_described) [] (flat_map (λ all. all) (map brought_at (take l.one-index l.brought)));
  found : AreItemsOf l.found.keys (map described_of l.all.items);
}
