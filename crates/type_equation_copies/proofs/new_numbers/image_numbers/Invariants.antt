use Rattle.std.proofs.Common.{◌≡◌, List, map, take}
use Rattle.type_contents.specs.Items as items
use Rattle.type_contents.specs.Views.{described_of, items_at, renaming_view}
use Rattle.type_equation_copies.specs.Copies as copies
use Rattle.type_equation_copies.specs.Indexes.{IsIndexOf, items_in}
use Rattle.type_equation_copies.proofs.new_numbers.image_numbers.Given as goal

abbrev pub invariant-loop-one : goal.invariant-loop-one
invariant-loop-one l = (among : List items.Described) → IsIndexOf l.index (items_in among) → l.all.items ≡ copies.image_numbers among (copies.image_in (items_at l.table l.replaced) (renaming_view l.renaming)) (map described_of (take l.one-index l.described))
