use Rattle.std.proofs.Common.{◌≡◌, map, take}
use Rattle.spec_core.specs.Theories.{equation_of}
use Rattle.static_presentation.specs.Moved as moved
use Rattle.static_presentation.proofs.moved.moved_equations.Given as goal

abbrev pub invariant-loop-equation : goal.invariant-loop-equation
invariant-loop-equation l = map equation_of l.all.items ≡ map (moved.moved_equation l.sorts l.operations) (map equation_of (take l.equation-index l.equations))
