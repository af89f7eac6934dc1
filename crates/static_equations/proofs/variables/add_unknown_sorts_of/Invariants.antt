use Rattle.std.proofs.Common.{◌≡◌, ◌++◌, map, take}
use Rattle.sort_overloads.specs.Views.{context_of}
use Rattle.static_equations.specs.Variables.{unknown_sorts}
use Rattle.static_equations.proofs.variables.add_unknown_sorts_of.Given as goal

abbrev pub invariant-loop-declaration : goal.invariant-loop-declaration
invariant-loop-declaration l = l.refusals.items ≡ l.fn.refusals.items ++ unknown_sorts (context_of l.scope) (map (λ d. d.now) (take l.declaration-index l.declarations))
