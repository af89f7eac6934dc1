use Rattle.std.proofs.Common.{refl, rules}
use Rattle.board_work.proofs.Going.{one_session}
use Rattle.simulator_steps.proofs.Waiting.{at_first, comes_later, onward}
use Rattle.simulator_steps.proofs.asking.settle.Goals as goal

pub loop-init : goal.loop-init
loop-init c = record { waits = at_first c.args.board.now; session = (((refl, refl), refl, refl), refl) }

pub returns-then-branch-clause-next : goal.returns-then-branch-clause-next
returns-then-branch-clause-next c =
    comes_later c.args.board.now c.loop.board c.settle_once.new.board c.loop.invariant.waits (c.in_ok-settle_once.ensures.entry (search rules))

pub loop-preserved : goal.loop-preserved
loop-preserved c =
    let a = c.args.board.now in
    let b = c.loop.board in
    let new = c.settle_once.new.board in
    let i = c.loop.invariant in
    let h = c.in_ok-settle_once.ensures in
    record {
      waits = onward a b new i.waits (h.job (search rules));
      session = one_session a b new i.session h.session;
    }
