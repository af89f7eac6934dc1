use Rattle.std.proofs.Common.{◌≡◌, List, map, take}
use Rattle.std.specs.List.{filter}
use Rattle.type_contents.specs.Items as items
use Rattle.type_contents.specs.Views.{described_of}
use Rattle.type_equation_copies.specs.Indexes.{IsIndexOf}
use Rattle.type_data.proofs.items.those_in.Given as goal

abbrev pub invariant-loop-one : goal.invariant-loop-one
invariant-loop-one l = (among : List items.Item) → IsIndexOf l.index among → map described_of l.some.items ≡ filter (λ d. items.is_in among d.item) (map described_of (take l.one-index l.all))
