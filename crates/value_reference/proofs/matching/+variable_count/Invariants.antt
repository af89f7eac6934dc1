use Rattle.std.proofs.Common.{ℕ, ◌<◌, ◌≤◌, ◌^◌, map, take}
use Rattle.spec_core.specs.Terms.{OccursInAny, terms, term_of}
use Rattle.value_reference.proofs.matching.+variable_count.Given as goal

abbrev pub invariant-loop-arg : goal.invariant-loop-arg
invariant-loop-arg l = record {
  above : (x : ℕ) → OccursInAny x (terms (map term_of (take l.arg-index l.arg-items))) → x < l.count;
  bounded : l.count ≤ 2 ^ 32;
}
