use Rattle.session_closing.proofs.Leaving as leaving
use Rattle.session_closing.proofs.closing.leave_if_open.Goals as goal

pub returns-in-Ok : goal.returns-in-Ok
returns-in-Ok c =
    let l = c.in-Ok.ensures in
    record { leaves = leaving.leaves c.args.client c.args.board.now c.leave.new.self l.setting l.stop l.may l.log l.state }
