use Rattle.std.proofs.Common.{◌≡◌, map, take}
use Rattle.spec_core.specs.Numbers.{sort_number}
use Rattle.static_equations.specs.Views.{declared_at}
use Rattle.static_equations.proofs.numbering.sorts_of.Given as goal

abbrev pub invariant-loop-variable : goal.invariant-loop-variable
invariant-loop-variable l = map sort_number l.all.items ≡ map (λ v. v.sort) (map declared_at (take l.variable-index l.variables))
