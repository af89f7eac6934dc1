use Rattle.std.proofs.Common.{◌≡◌, take, nat_eq}
use Rattle.type_contents.specs.Lists.{each_once}
use Rattle.type_contents.proofs.item_table.number_set.Given as goal

abbrev pub invariant-loop-number : goal.invariant-loop-number
invariant-loop-number l = l.found.keys ≡ each_once nat_eq (take l.number-index l.numbers)
