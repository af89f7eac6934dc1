use Rattle.std.proofs.Common.{ℕ, ◌≡◌, ◌<◌, false}
use Rattle.equation_sets.specs.Members.{IsIn}
use Rattle.spec_core.specs.Theories.{theory_of}
use Rattle.cover_search.specs.Sorts.{AllInhabited, IsClosedAt}
use Rattle.cover_search.proofs.sorts.spread.Given as goal

abbrev pub invariant-loop-i : goal.invariant-loop-i
invariant-loop-i l = record {
  kept : (s : ℕ) → IsIn s l.initial.set → IsIn s l.set;
  sound : AllInhabited (theory_of l.algebra) l.initial.set → AllInhabited (theory_of l.algebra) l.set;
  same : l.changed ≡ false → l.set ≡ l.initial.set;
  closed : l.changed ≡ false → (c : ℕ) → c < l.i → IsClosedAt (theory_of l.algebra) l.initial.set c;
}
