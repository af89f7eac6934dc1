use Rattle.std.proofs.Common.{refl}
use Rattle.board_work.proofs.Going as going
use Rattle.client_runs.proofs.Running.{onward}
use Rattle.client_runs.proofs.settling_all.settle_all.Goals as goal

pub loop-init : goal.loop-init
loop-init c = record {
  continues = λ start wishes run. run;
  goes_on = going.at_first c.args.board.now;
  session = (((refl, refl), refl, refl), refl);
}

pub returns-then-branch-clause-goes_on : goal.returns-then-branch-clause-goes_on
returns-then-branch-clause-goes_on c =
    going.onward c.args.board.now c.loop.board c.settle_once.new.board c.loop.invariant.goes_on c.in_ok-settle_once.ensures.goes_on

pub loop-preserved : goal.loop-preserved
loop-preserved c =
    let a = c.args.board.now in
    let b = c.loop.board in
    let new = c.settle_once.new.board in
    let i = c.loop.invariant in
    let h = c.in_ok-settle_once.ensures in
    record {
      continues = onward a b new i.continues h.continues;
      goes_on = going.onward a b new i.goes_on h.goes_on;
      session = going.one_session a b new i.session h.session;
    }
