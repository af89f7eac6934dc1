use Rattle.std.proofs.Common.{◌≡◌, map, take}
use Rattle.static_equations.specs.Variables.{declarations}
use Rattle.static_equations.proofs.variables.declarations.Given as goal

abbrev pub invariant-loop-list : goal.invariant-loop-list
invariant-loop-list l = map (λ d. d.now) l.all.items ≡ declarations (take l.list-index l.lists)
