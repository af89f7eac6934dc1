use Rattle.std.proofs.Common.{◌≡◌, map, take}
use Rattle.type_equation_copies.specs.Indexes.{item_at}
use Rattle.type_data.specs.Data.{of_data}
use Rattle.type_data.proofs.items.data_items.Given as goal

abbrev pub invariant-loop-number : goal.invariant-loop-number
invariant-loop-number l = map item_at l.all.items ≡ of_data (λ c. c.items) (take l.number l.formal) l.contents
