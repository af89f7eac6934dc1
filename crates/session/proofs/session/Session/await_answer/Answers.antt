use Rattle.std.proofs.Common.{◌∙◌}
use Rattle.session.proofs.Seats.{begins_on}
use Rattle.session.proofs.session.Session.await_answer.Goals as goal

pub returns-in_err-place-clause-stays : goal.returns-in_err-place-clause-stays
returns-in_err-place-clause-stays g c =
    let h = c.look_again.ensures.stays in
    let k = c.loop.invariant.stays in
    (h.0 ∙ k.0, h.1 ∙ k.1, h.2 ∙ k.2)

pub returns-in_err-place-clause-none : goal.returns-in_err-place-clause-none
returns-in_err-place-clause-none g c =
    let h = c.look_again.ensures.none in
    let k = c.loop.invariant.more in
    (begins_on c.args.seat.now.seen c.loop.seat.seen c.look_again.new.seat.seen k.0 h.0, h.1 ∙ k.1)
