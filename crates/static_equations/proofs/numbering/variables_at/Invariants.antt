use Rattle.std.proofs.Common.{◌≡◌, map, take}
use Rattle.sort_overloads.specs.Views.{declared_of}
use Rattle.static_equations.specs.Numbered.{variables_at}
use Rattle.static_equations.specs.Views.{declared_at}
use Rattle.static_equations.proofs.numbering.variables_at.Given as goal

abbrev pub invariant-loop-number : goal.invariant-loop-number
invariant-loop-number l = map declared_at l.all.items ≡ variables_at (map declared_of l.variables) (take l.number-index l.numbers)
