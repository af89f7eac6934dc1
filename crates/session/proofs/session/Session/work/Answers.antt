use Rattle.std.proofs.Common.{ap, subst}
use Rattle.turn_lock.specs.Entries.{Begins}
use Rattle.session.proofs.Seats.{begins_on}
use Rattle.session.proofs.session.Session.work.Goals as goal

pub returns-in_err-handed-in-Free-clause-begins : goal.returns-in_err-handed-in-Free-clause-begins
returns-in_err-handed-in-Free-clause-begins g c =
    let turned = c.work_turn.new.seat.seen in
    begins_on c.args.pass.now.seen turned c.hand_in-handed.new.seat.seen
    (subst (λ l. Begins l turned) (ap (λ p. p.seen) c.pass.view_is) c.work_turn.ensures.none.0) c.hand_in-handed.ensures.none.0

pub returns-in_ok-handed-in-Free-clause-begins : goal.returns-in_ok-handed-in-Free-clause-begins
returns-in_ok-handed-in-Free-clause-begins g c =
    let turned = c.work_turn.new.seat.seen in
    begins_on c.args.pass.now.seen turned c.hand_in-handed.new.seat.seen
    (subst (λ l. Begins l turned) (ap (λ p. p.seen) c.pass.view_is) c.work_turn.ensures.none.0) c.hand_in-handed.ensures.none.0
