use Rattle.std.proofs.Common.{◌++◌, List, vec_len}
use Rattle.spec_core.specs.Lists.{Each}
use Rattle.session_threads.specs.Rows.{IsReadyRow}
use Rattle.session_threads.specs.declared.threads.Started.{Started}
use Rattle.session_threads.specs.Started.{AreStarted, IsFit}
use Rattle.session_threads.proofs.threads.start_rows.Given as goal

abbrev pub invariant-loop-rows : goal.invariant-loop-rows
invariant-loop-rows g l = record {
  ready : Each (IsReadyRow l.session) l.rows.items;
  started : (more : List Started) → AreStarted l.rows.items more → AreStarted l.fn.rows.items (l.all.items ++ more);
  fit : Each (IsFit l.session) l.all.items;
}

abbrev pub decreases-loop-rows : goal.decreases-loop-rows
decreases-loop-rows g l = vec_len l.rows
