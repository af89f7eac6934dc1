use Rattle.std.proofs.Common.{◌<◌, take}
use Rattle.spec_core.specs.Lists.{Each}
use Rattle.equation_sets.proofs.numbers.bound_of.Given as goal

abbrev pub invariant-loop-x : goal.invariant-loop-x
invariant-loop-x l = Each (λ n. n < l.bound) (take l.x-index l.all)
