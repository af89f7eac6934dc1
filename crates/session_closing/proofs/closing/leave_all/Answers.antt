use Rattle.std.proofs.Common.{◌+◌, arith}
use Rattle.session_closing.proofs.Leaving.{all_left, ascending, none_yet, one_more}
use Rattle.session_closing.proofs.closing.leave_all.Goals as goal

pub loop-number-init : goal.loop-number-init
loop-number-init c = none_yet c.args.board.now c.clients-clients.result c.clients-clients.ensures c.log_is_a_derivation.ensures.session

pub loop-number-preserved : goal.loop-number-preserved
loop-number-preserved c =
    one_more (c.loop-number.number + 1) (c.clients-clients.result + 1) c.args.board.now c.loop-number.board c.leave_if_open.new.board
    c.loop-number.invariant c.in_ok-leave_if_open.ensures.leaves

pub returns : goal.returns
returns c =
    let past = c.loop-number-test.false in
    record {
      leave =
          all_left (c.loop-number.number + 1) (c.clients-clients.result + 1) c.args.board.now c.loop-number.board (omega (arith, past))
          (ascending c.args.board.now c.log_is_a_derivation.ensures.session) c.loop-number.invariant;
    }
