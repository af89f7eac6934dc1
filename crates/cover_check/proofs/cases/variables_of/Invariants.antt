use Rattle.std.proofs.Common.{◌≡◌, map, take}
use Rattle.spec_core.specs.Numbers.{sort_number}
use Rattle.spec_core.specs.Terms.{term_of, variable}
use Rattle.cover_check.proofs.cases.variables_of.Given as goal

abbrev pub invariant-loop-sort : goal.invariant-loop-sort
invariant-loop-sort l = map term_of l.items.items ≡ map variable (map sort_number (take l.sort-index l.sorts))
