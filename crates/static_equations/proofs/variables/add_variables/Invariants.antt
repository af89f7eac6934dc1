use Rattle.std.proofs.Common.{◌≡◌, ◌++◌, map, take}
use Rattle.static_equations.specs.Variables.{all_variables}
use Rattle.static_equations.proofs.variables.add_variables.Given as goal

abbrev pub invariant-loop-declaration : goal.invariant-loop-declaration
invariant-loop-declaration l = l.vars ≡ l.fn.vars ++ all_variables l.sorts (map (λ d. d.now) (take l.declaration-index l.declarations))
