use Rattle.std.proofs.Common.{◌≡◌, ◌++◌, map, take}
use Rattle.static_equations.proofs.variables.add_variables_of.Given as goal

abbrev pub invariant-loop-name : goal.invariant-loop-name
invariant-loop-name l = l.vars ≡ l.fn.vars
    ++ map (λ name. record { name = name.text; sort = l.sort.0 }) (take l.name-index l.name-items)
