use Rattle.std.proofs.Common.{ℕ, ◌<◌, ◌↔◌, take, length}
use Rattle.spec_core.specs.Lists.{Each, IsOneOf}
use Rattle.equation_sets.specs.Members.{IsIn}
use Rattle.equation_sets.proofs.numbers.set_of.Given as goal

abbrev pub invariant-loop-x : goal.invariant-loop-x
invariant-loop-x l = record {
  within : Each (λ n. n < length l.set) l.all;
  exact : (n : ℕ) → IsIn n l.set ↔ IsOneOf n (take l.x-index l.all);
}
