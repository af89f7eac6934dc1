use Rattle.std.proofs.Common.{◌≡◌, map, take}
use Rattle.type_contents.specs.Views.{described_of, items_at}
use Rattle.static_presentation.specs.Signatures.{numbers_had}
use Rattle.static_presentation.proofs.signature.numbers_had.Given as goal

abbrev pub invariant-loop-number : goal.invariant-loop-number
invariant-loop-number l = l.found.keys ≡ numbers_had (items_at l.table (take l.number-index l.items)) (map described_of l.all)
