use Rattle.std.proofs.Common.{ℕ, ◌≡◌, [], length}
use Rattle.spec_core.specs.Lists.{Each}
use Rattle.equation_check.specs.Groups.{group_of, IsIndexed}
use Rattle.equation_check.proofs.groups.no_groups.Given as goal

abbrev pub invariant-loop : goal.invariant-loop
invariant-loop l = record {
  sized : length l.groups.items ≡ l.counter;
  empty : (f : ℕ) → group_of l.groups.items f ≡ [];
  indexed : Each IsIndexed l.groups.items;
}
