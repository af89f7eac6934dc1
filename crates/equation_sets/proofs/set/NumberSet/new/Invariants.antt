use Rattle.std.proofs.Common.{ℕ, ◌≡◌, length}
use Rattle.equation_sets.specs.Members.{IsIn}
use Rattle.equation_sets.proofs.set.NumberSet.new.Given as goal

abbrev pub invariant-loop : goal.invariant-loop
invariant-loop l = record {
  sized : length l.flags.items ≡ l.counter;
  empty : (n : ℕ) → IsIn n l.flags.items → ⊥;
}
