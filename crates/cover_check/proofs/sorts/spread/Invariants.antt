use Rattle.std.proofs.Common.{ℕ, ◌≡◌, ◌<◌, false}
use Rattle.equation_sets.specs.Members.{IsIn}
use Rattle.spec_core.specs.Theories.{theory_of}
use Rattle.cover_check.specs.Opening.{AllOpen, IsClosedFor}
use Rattle.cover_check.proofs.sorts.spread.Given as goal

abbrev pub invariant-loop-i : goal.invariant-loop-i
invariant-loop-i l = record {
  kept : (s : ℕ) → IsIn s l.initial.set → IsIn s l.set;
  sound : AllOpen (theory_of l.algebra) l.initial.set → AllOpen (theory_of l.algebra) l.set;
  same : l.changed ≡ false → l.set ≡ l.initial.set;
  closed : l.changed ≡ false → (f : ℕ) → f < l.i → IsClosedFor (theory_of l.algebra) l.initial.set f;
}
