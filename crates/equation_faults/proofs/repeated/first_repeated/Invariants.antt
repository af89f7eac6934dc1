use Rattle.std.proofs.Common.{ℕ, ◌<◌, ◌↔◌, take, length}
use Rattle.equation_sets.proofs.Members.{Distinct}
use Rattle.equation_sets.specs.Members.{IsIn}
use Rattle.spec_core.specs.Lists.{Each, IsOneOf}
use Rattle.equation_faults.proofs.repeated.first_repeated.Given as goal

abbrev pub invariant-loop-x : goal.invariant-loop-x
invariant-loop-x l = record {
  within : Each (λ n. n < length l.seen) l.all;
  exact : (n : ℕ) → IsIn n l.seen ↔ IsOneOf n (take l.x-index l.all);
  distinct : Distinct (take l.x-index l.all);
}
