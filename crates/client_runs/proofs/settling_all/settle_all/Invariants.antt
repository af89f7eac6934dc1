use Rattle.board_core.specs.Views.{SameSession}
use Rattle.board_work.specs.Going.{GoesOn}
use Rattle.client_runs.specs.Runs.{Continues}
use Rattle.client_runs.proofs.settling_all.settle_all.Given as goal

abbrev pub invariant-loop : goal.invariant-loop
invariant-loop l = record {
  continues : Continues l.fn.board l.board;
  goes_on : GoesOn l.fn.board l.board;
  session : SameSession l.fn.board l.board;
}
