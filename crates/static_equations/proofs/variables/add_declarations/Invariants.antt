use Rattle.std.proofs.Common.{◌≡◌, ◌++◌, map, take}
use Rattle.static_equations.proofs.variables.add_declarations.Given as goal

abbrev pub invariant-loop-declaration : goal.invariant-loop-declaration
invariant-loop-declaration l = map (λ d. d.now) l.all.items ≡ map (λ d. d.now) l.fn.all.items ++ take l.declaration-index l.list
