use Rattle.std.proofs.Common.{◌≡◌, take}
use Rattle.std.specs.List.{flat_map}
use Rattle.type_contents.specs.Views.{item_numbers}
use Rattle.type_contents.proofs.numbers.items_of_all.Given as goal

abbrev pub invariant-loop-number : goal.invariant-loop-number
invariant-loop-number l = l.all.items ≡ flat_map (item_numbers l.made) (take l.number-index l.linked)
