use Rattle.std.proofs.Common.{◌≡◌, map, take}
use Rattle.type_contents.specs.Views.{described_of}
use Rattle.static_presentation.specs.Signatures.{stands_at}
use Rattle.static_presentation.proofs.signature.had_at.Given as goal

abbrev pub invariant-loop-number : goal.invariant-loop-number
invariant-loop-number l = map described_of l.had.items ≡ stands_at (map described_of l.all) (take l.number-index l.numbers)
