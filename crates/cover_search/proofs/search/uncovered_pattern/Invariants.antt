use Rattle.std.proofs.Common.{[], ◌∷◌}
use Rattle.spec_core.specs.Lists.{Each}
use Rattle.spec_core.specs.Theories.{theory_of}
use Rattle.cover_search.specs.Candidates.{HasCandidates}
use Rattle.cover_search.specs.Search.{LeadsBack, arguments_of, rows_of, stack_of}
use Rattle.cover_search.specs.Turns.{turns_left}
use Rattle.cover_search.proofs.search.uncovered_pattern.Given as goal

abbrev pub invariant-loop-pending : goal.invariant-loop-pending
invariant-loop-pending l = record {
  back : LeadsBack (theory_of l.algebra) (rows_of l.rows) (arguments_of l.fn.start ∷ []) (stack_of l.todo.items);
  candidates : Each (HasCandidates (rows_of l.rows)) l.todo.items;
}

abbrev pub decreases-loop-pending : goal.decreases-loop-pending
decreases-loop-pending l = turns_left (theory_of l.algebra) (rows_of l.rows) (stack_of l.todo.items)
