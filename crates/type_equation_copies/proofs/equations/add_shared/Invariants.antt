use Rattle.std.proofs.Common.{◌≡◌, ◌++◌, map, take}
use Rattle.type_images.specs.Views.{shared_of}
use Rattle.type_equation_copies.proofs.equations.add_shared.Given as goal

abbrev pub invariant-loop-equation : goal.invariant-loop-equation
invariant-loop-equation l = map shared_of l.all.items ≡ map shared_of l.initial.all.items ++ map shared_of (take l.equation-index l.more)
