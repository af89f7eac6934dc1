use Rattle.std.proofs.Common.{◌≡◌, map, take}
use Rattle.std.specs.List.{fold, filter}
use Rattle.type_images.specs.Same as same
use Rattle.type_images.specs.Groups.{equations_of, IsGrouped}
use Rattle.type_images.specs.Views.{shared_of}
use Rattle.type_equation_copies.proofs.order.add_those_in.Given as goal

abbrev pub invariant-loop-equation : goal.invariant-loop-equation
invariant-loop-equation l = record {
  equations : equations_of l.set ≡ fold same.with_equation (equations_of l.initial.set) (filter (same.is_in (equations_of l.content)) (map shared_of (take l.equation-index l.equations)));
  grouped : IsGrouped l.set;
}
