use Rattle.std.proofs.Common.{ℕ, ◌≡◌, ◌<◌, ◌↔◌, length}
use Rattle.equation_sets.specs.Members.{IsIn}
use Rattle.spec_core.specs.Cover.{IsPartial}
use Rattle.spec_core.specs.Theories.{theory_of}
use Rattle.cover_check.proofs.partial.partial_operations.Given as goal

abbrev pub invariant-loop-i : goal.invariant-loop-i
invariant-loop-i l = record {
  sized : length l.set ≡ length l.algebra.signature.ops.items;
  found : (f : ℕ) → IsIn f l.set ↔ ((f < l.i) × IsPartial (theory_of l.algebra) f);
}
