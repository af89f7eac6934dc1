use Rattle.std.proofs.Common.{◌≡◌, List, map, take, string_bytes}
use Rattle.spec_core.specs.Numbers.{sort_number}
use Rattle.type_contents.specs.Items.{Described}
use Rattle.type_equation_copies.specs.Indexes.{IsIndexOf, items_in}
use Rattle.type_data.specs.Data as data_specs
use Rattle.type_data.proofs.signature.sort_numbers.Given as goal

abbrev pub invariant-loop-name : goal.invariant-loop-name
invariant-loop-name l = (sorts : List Described) → IsIndexOf l.index (items_in sorts) → map sort_number l.all.items ≡ data_specs.sort_numbers sorts (map (λ s. string_bytes s) (take l.name-index l.names))
