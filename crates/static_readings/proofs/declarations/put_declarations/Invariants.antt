use Rattle.std.proofs.Common.{◌≡◌, take}
use Rattle.static_equations.specs.Variables.{all_variables}
use Rattle.static_readings.specs.Sites.{with_variables}
use Rattle.static_readings.proofs.declarations.put_declarations.Given as goal

abbrev pub invariant-loop-declaration : goal.invariant-loop-declaration
invariant-loop-declaration l = l.site ≡ with_variables l.fn.site (all_variables l.fn.site.context.sorts (take l.declaration-index l.declared))
