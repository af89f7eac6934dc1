use Rattle.std.proofs.Common.{◌≡◌, map, take}
use Rattle.spec_core.specs.Theories.{equation_of}
use Rattle.type_images.specs.Views.{shared_of}
use Rattle.type_equation_copies.proofs.equations.shared.Given as goal

abbrev pub invariant-loop-equation : goal.invariant-loop-equation
invariant-loop-equation l = map shared_of l.all.items ≡ map equation_of (take l.equation-index l.equations)
