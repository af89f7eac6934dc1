use Rattle.std.proofs.Common.{ℕ, List, ◌<◌, ◌+◌, ◌*◌, map, take}
use Rattle.std.specs.List.{slice_get}
use Rattle.equation_overlaps.specs.Given.{candidate}
use Rattle.spec_core.specs.Cover.{IsAfter, IsFull}
use Rattle.spec_core.specs.Lists.{Each}
use Rattle.spec_core.specs.Numbers.{op_number, sort_number}
use Rattle.spec_core.specs.Terms.{term_of}
use Rattle.spec_core.specs.Theories.{Premise, premise_of, theory_of}
use Rattle.cover_groups.specs.Fullness.{IsFullBy}
use Rattle.cover_groups.specs.Groups.{premises_at}
use Rattle.cover_groups.proofs.full.+full.Given as goal

abbrev pub decreases-is_full : goal.decreases-is_full
decreases-is_full l = 2 * l.longest + 1

abbrev pub decreases-is_full_by : goal.decreases-is_full_by
decreases-is_full_by l = 2 * l.longest

abbrev pub invariant-is_full-loop-number : goal.invariant-is_full-loop-number
invariant-is_full-loop-number l = (n : ℕ) → n < l.number →
    IsFullBy (theory_of l.algebra) (slice_get (map sort_number l.vars)) (map premises_at l.lists) (candidate (premise_of l.premise) n) → ⊥

abbrev pub invariant-is_full_by-loop-op : goal.invariant-is_full_by-loop-op
invariant-is_full_by-loop-op l = Each (λ c. (rest : List (List Premise)) → IsAfter (theory_of l.algebra) (term_of l.term) c (map premises_at l.lists) rest →
    IsFull (theory_of l.algebra) (slice_get (map sort_number l.vars)) rest) (map op_number (take l.op-index l.constructors))
