use Rattle.board_core.specs.Views.{SameSession}
use Rattle.simulator_steps.specs.Asking.{OnlyWaits}
use Rattle.simulator_steps.proofs.asking.settle.Given as goal

abbrev pub invariant-loop : goal.invariant-loop
invariant-loop l = record { waits : OnlyWaits l.fn.board l.board; session : SameSession l.fn.board l.board }
