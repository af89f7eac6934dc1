use Rattle.std.proofs.Common.{rules, ◌≡◌, sym, subst, arith, Err, IfErr}
use Rattle.turn_lock.specs.Entries.{Begins}
use Rattle.rule_model.specs.Answers.{answer_of}
use Rattle.rule_model.specs.Events.{pended}
use Rattle.session.specs.Calls.{ExplainsCall}
use Rattle.session.specs.Passes.{HasHalted, KnowsAnswer, PassView}
use Rattle.session.specs.Waiting.{HasCalled, pass_view}
use Rattle.session.proofs.Passing.{idle_seat, knows_answer, pass_answered, pass_stays}
use Rattle.session.proofs.Seats.{begins_on, made_begins, not_memory, stays_halted}
use Rattle.session.proofs.session.Session.call.Goals as goal

pub post-requires-clause-idle : goal.post-requires-clause-idle
post-requires-clause-idle g c = idle_seat c.pass.inside.seat c.pass.inside.client c.pass.inside.spot c.pass.invariant

pub invariant_of-pass : goal.invariant_of-pass
invariant_of-pass g c =
    pass_stays c.pass.inside.seat c.post.new.seat c.pass.inside.client c.pass.inside.spot c.pass.invariant c.post.ensures.stays
    c.in_err-number.ensures.none

pub returns-in_err-number-clause-fault : goal.returns-in_err-number-clause-fault
returns-in_err-number-clause-fault g c =
    let s = c.args.self.now in
    let offer = c.args.offer.now in
    let q = pass_view c.post.new.seat c.pass.inside.client c.pass.inside.spot in
    let fault = c.in_err-number.field-0.0 in
    let is : c.from_residual.result ≡ Err fault = search rules in
    subst (λ r. IfErr r (ExplainsCall s c.args.pass.now q offer)) (sym is)
    (subst (λ (p : PassView). ExplainsCall s p q offer fault) c.pass.view_is c.in_err-number.ensures.fault)

pub invariant_of-pass-in-Ok : goal.invariant_of-pass-in-Ok
invariant_of-pass-in-Ok g c =
    let last = c.in_ok-number.ensures.spot.1 in
    let further = c.in-Ok.ensures.spot.1 in
    pass_answered c.pass.inside.seat c.post.new.seat c.await_answer.new.seat c.pass.inside.client c.pass.inside.spot c.in-Ok.spot c.pass.invariant
    c.post.ensures.stays c.post.ensures.own c.await_answer.ensures.stays c.await_answer.ensures.none c.in-Ok.ensures.own
    (omega (arith, last, further)) c.in-Ok.ensures.spot.0 c.in-Ok.ensures.answered.1

pub returns-in-Ok-clause-answered : goal.returns-in-Ok-clause-answered
returns-in-Ok-clause-answered g c =
    let old = c.pass.inside.seat in
    let made = c.post.new.seat in
    let new = c.await_answer.new.seat in
    let client = c.pass.inside.client in
    let last = c.in_ok-number.ensures.spot.1 in
    let further = c.in-Ok.ensures.spot.1 in
    let event = pended client c.in_ok-number.number c.args.offer.now c.args.ask in
    let called : HasCalled old made new client event c.pass.inside.spot c.in-Ok.spot = record {
      pass = c.pass.invariant;
      running =
          not_memory _ (HasHalted old.seen)
          (λ h. c.in_ok-number.ensures.halted
          (stays_halted old.seen made.seen (made_begins old made event c.in_ok-number.ensures.made) h));
      first = c.post.ensures.stays;
      makes = c.in_ok-number.ensures.made;
      owns = c.post.ensures.own;
      stays = c.await_answer.ensures.stays;
      more = c.await_answer.ensures.none;
      own = c.in-Ok.ensures.own;
      behind = omega (arith, last, further);
    } in
    subst
    (λ (p : PassView). KnowsAnswer p c.args.offer.now c.args.ask (answer_of c.in-Ok.reply) (pass_view new client c.in-Ok.spot))
    c.pass.view_is
    (knows_answer old made new client c.in_ok-number.number c.args.offer.now c.args.ask (answer_of c.in-Ok.reply) c.pass.inside.spot c.in-Ok.spot
    called c.in-Ok.ensures.answered.0)

pub returns-in-Ok-clause-seen : goal.returns-in-Ok-clause-seen
returns-in-Ok-clause-seen g c =
    let old = c.pass.inside.seat in
    let made = c.post.new.seat in
    let new = c.await_answer.new.seat in
    let event = pended c.pass.inside.client c.in_ok-number.number c.args.offer.now c.args.ask in
    subst (λ (p : PassView). Begins p.seen new.seen) c.pass.view_is
    (begins_on old.seen made.seen new.seen (made_begins old made event c.in_ok-number.ensures.made) c.await_answer.ensures.none.0)

pub returns-in-Err-clause-seen : goal.returns-in-Err-clause-seen
returns-in-Err-clause-seen g c =
    let old = c.pass.inside.seat in
    let made = c.post.new.seat in
    let new = c.await_answer.new.seat in
    let event = pended c.pass.inside.client c.in_ok-number.number c.args.offer.now c.args.ask in
    subst (λ (p : PassView). Begins p.seen new.seen) c.pass.view_is
    (begins_on old.seen made.seen new.seen (made_begins old made event c.in_ok-number.ensures.made) c.await_answer.ensures.none.0)
