use Rattle.std.proofs.Common.{◌≡◌, List, map, take}
use Rattle.type_contents.specs.Items as items
use Rattle.type_contents.specs.Views.{described_of}
use Rattle.type_equation_copies.specs.Copies.{image_numbers}
use Rattle.type_equation_copies.specs.Indexes.{IsIndexOf, items_in}
use Rattle.type_data.proofs.items.item_numbers.Given as goal

abbrev pub invariant-loop-one : goal.invariant-loop-one
invariant-loop-one l = (among : List items.Described) → IsIndexOf l.index (items_in among) → l.all.items ≡ image_numbers among (λ x. x) (map described_of (take l.one-index l.described))
