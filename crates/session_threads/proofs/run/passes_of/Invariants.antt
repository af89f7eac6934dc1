use Rattle.std.proofs.Common.{◌≡◌, ◌++◌, vec_len}
use Rattle.spec_core.specs.Lists.{Each}
use Rattle.session_threads.specs.Rows.{client_passes, worker_passes, IsDone}
use Rattle.session_threads.proofs.run.passes_of.Given as goal

abbrev pub invariant-loop-rows : goal.invariant-loop-rows
invariant-loop-rows l = record {
  clients : l.clients.items ++ client_passes l.rows.items ≡ client_passes l.fn.rows.items;
  workers : l.workers.items ++ worker_passes l.rows.items ≡ worker_passes l.fn.rows.items;
  done : Each IsDone l.rows.items → Each IsDone l.fn.rows.items;
}

abbrev pub decreases-loop-rows : goal.decreases-loop-rows
decreases-loop-rows l = vec_len l.rows
