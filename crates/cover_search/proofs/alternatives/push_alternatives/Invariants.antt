use Rattle.std.proofs.Common.{ℕ, List, map, take, length, ◌≤◌}
use Rattle.spec_core.specs.Lists.{Each}
use Rattle.spec_core.specs.Numbers.{op_number}
use Rattle.spec_core.specs.Terms.{TermTrees, term_of, terms}
use Rattle.spec_core.specs.Theories.{theory_of}
use Rattle.cover_search.specs.Candidates.{AreMeeting, HasCandidates}
use Rattle.cover_search.specs.Search.{stack_of}
use Rattle.cover_search.specs.Splits.{IsSplitOf}
use Rattle.cover_search.proofs.Constructing.{AreComing}
use Rattle.cover_search.proofs.alternatives.push_alternatives.Given as goal

abbrev pub invariant-loop-place : goal.invariant-loop-place
invariant-loop-place l = record {
  inside : l.place ≤ length l.constructors;
  coming : AreComing (theory_of l.algebra) l.sort (terms (map term_of l.row)) (terms (map term_of l.pattern)) (map op_number (take l.place l.constructors)) (stack_of l.initial.todo.items) (stack_of l.todo.items);
  candidates : (rows : List TermTrees) (numbers : List ℕ) → IsSplitOf l.split rows (terms (map term_of l.row)) (terms (map term_of l.pattern)) numbers
      → AreMeeting rows (terms (map term_of l.pattern)) numbers → Each (HasCandidates rows) l.initial.todo.items → Each (HasCandidates rows) l.todo.items;
}

abbrev pub decreases-loop-place : goal.decreases-loop-place
decreases-loop-place l = l.place
