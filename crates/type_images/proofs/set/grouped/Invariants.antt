use Rattle.std.proofs.Common.{◌≡◌, map, take}
use Rattle.type_images.specs.Views.{shared_of}
use Rattle.type_images.specs.Groups.{equations_of, IsGrouped}
use Rattle.type_images.proofs.set.grouped.Given as goal

abbrev pub invariant-loop-equation : goal.invariant-loop-equation
invariant-loop-equation l = record {
  equations : equations_of l.set ≡ map shared_of (take l.equation-index l.equations);
  grouped : IsGrouped l.set;
}
