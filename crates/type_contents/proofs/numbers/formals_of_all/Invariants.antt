use Rattle.std.proofs.Common.{◌≡◌, take}
use Rattle.std.specs.List.{flat_map}
use Rattle.type_contents.specs.Views.{formal_numbers}
use Rattle.type_contents.proofs.numbers.formals_of_all.Given as goal

abbrev pub invariant-loop-number : goal.invariant-loop-number
invariant-loop-number l = l.all.items ≡ flat_map (formal_numbers l.made) (take l.number-index l.linked)
