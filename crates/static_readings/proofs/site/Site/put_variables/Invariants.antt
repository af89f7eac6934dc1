use Rattle.std.proofs.Common.{◌≡◌, take}
use Rattle.static_readings.specs.Declarations.{of_one_sort}
use Rattle.static_readings.specs.Sites.{with_variables}
use Rattle.static_readings.proofs.site.Site.put_variables.Given as goal

abbrev pub invariant-loop-name : goal.invariant-loop-name
invariant-loop-name l = l.self ≡ with_variables l.fn.self (of_one_sort l.fn.self.context.sorts (take l.name-index l.names) l.sort)
