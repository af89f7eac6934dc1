use Rattle.std.proofs.Common.{ℕ, ◌≡◌, ◌<◌, None}
use Rattle.value_text.specs.Values.{name_at}
use Rattle.trace_reader.specs.Cursors.{ending_there, past}
use Rattle.trace_reader.proofs.named.read_named.Given as goal

abbrev pub invariant-loop-i : goal.invariant-loop-i
invariant-loop-i l = record {
  here : l.cursor ≡ l.initial.cursor;
  none : (j : ℕ) → j < l.i → ending_there (past (name_at l.names j) l.initial.cursor) ≡ None;
}
