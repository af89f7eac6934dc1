use Rattle.std.proofs.Common.{take}
use Rattle.spec_core.specs.Lists.{Each, IsOneOf}
use Rattle.equation_faults.proofs.repeated.first_missing.Given as goal

abbrev pub invariant-loop-x : goal.invariant-loop-x
invariant-loop-x l = Each (λ n. IsOneOf n l.there) (take l.x-index l.all)
