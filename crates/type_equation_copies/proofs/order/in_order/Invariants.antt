use Rattle.std.proofs.Common.{◌≡◌, map, []}
use Rattle.std.specs.List.{fold, flat_map, range_with_len}
use Rattle.type_images.specs.Same as same
use Rattle.type_images.specs.Groups.{equations_of, IsGrouped}
use Rattle.type_equation_copies.specs.Contents as contents
use Rattle.type_equation_copies.specs.Views.{made_at}
use Rattle.type_equation_copies.proofs.order.in_order.Given as goal

abbrev pub invariant-loop-number : goal.invariant-loop-number
invariant-loop-number l = record {
  equations : equations_of l.set ≡ fold same.with_equation [] (flat_map (contents.brought_by (map made_at l.found) l.among (equations_of l.content)) (range_with_len 0 l.number));
  grouped : IsGrouped l.set;
}
