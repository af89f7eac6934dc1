use Rattle.std.proofs.Common.{◌≡◌, ◌++◌, map, vec_len}
use Rattle.session_threads.specs.Rows.{worker_row}
use Rattle.session_threads.proofs.run.worker_rows.Given as goal

abbrev pub invariant-loop-passes : goal.invariant-loop-passes
invariant-loop-passes l = record { so : l.rows.items ++ map worker_row l.passes.items ≡ map worker_row l.fn.passes.items }

abbrev pub decreases-loop-passes : goal.decreases-loop-passes
decreases-loop-passes l = vec_len l.passes
