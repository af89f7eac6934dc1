use Rattle.std.proofs.Common.{◌≡◌, map, take}
use Rattle.static_equations.specs.Views.{declared_at}
use Rattle.static_equations.proofs.numbering.names_of.Given as goal

abbrev pub invariant-loop-variable : goal.invariant-loop-variable
invariant-loop-variable l = l.all.items ≡ map (λ v. v.name) (map declared_at (take l.variable-index l.variables))
