use Rattle.std.proofs.Common.{◌≡◌, take, map}
use Rattle.type_contents.specs.Views.{items_at, renaming_view}
use Rattle.type_copies.specs.Copies.{change_in}
use Rattle.type_copies.specs.Views.{change_of}
use Rattle.type_copies.proofs.copy.changes.Given as goal

abbrev pub invariant-loop-number : goal.invariant-loop-number
invariant-loop-number l = map change_of l.all.items ≡ map (change_in (items_at l.table l.replaced) (renaming_view l.renaming)) (items_at l.table (take l.number-index l.numbers))
