use Rattle.std.proofs.Common.{ℕ, ◌≡◌, map, take}
use Rattle.spec_core.specs.Terms.{TermTree, instances, OccursInAny, terms, term_of}
use Rattle.value_reference.proofs.matching.+value_at.Given as goal

abbrev pub invariant-loop-i : goal.invariant-loop-i
invariant-loop-i l =
    (s : ℕ → TermTree) → instances s (terms (map term_of l.part-items)) ≡ terms (map term_of l.values.items) →
    OccursInAny l.variable (terms (map term_of (take l.i l.part-items))) → ⊥
