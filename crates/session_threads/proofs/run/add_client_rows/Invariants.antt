use Rattle.std.proofs.Common.{◌≡◌, ◌++◌, List, drop, length, map, vec_len}
use Rattle.session.specs.Passes.{PassView}
use Rattle.session_threads.specs.Rows.{AreClientRows}
use Rattle.session_threads.specs.Runs.{all_wishes_of}
use Rattle.session_threads.proofs.run.add_client_rows.Given as goal

abbrev pub invariant-loop-pass : goal.invariant-loop-pass
invariant-loop-pass l =
    (done : List PassView) × (l.fn.passes.items ≡ l.passes.items ++ done) ×
    AreClientRows done (drop (length l.passes.items) (map all_wishes_of l.clients)) l.fn.rows.items l.rows.items

abbrev pub decreases-loop-pass : goal.decreases-loop-pass
decreases-loop-pass l = vec_len l.passes
