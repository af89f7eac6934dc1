use Rattle.std.proofs.Common.{rules, ◌≡◌, sym, subst, arith, Err, IfErr}
use Rattle.turn_lock.specs.Entries.{Begins}
use Rattle.rule_model.specs.Events.{left}
use Rattle.session.specs.Calls.{ExplainsLeaving}
use Rattle.session.specs.Passes.{HasHalted, KnowsLeave, PassView}
use Rattle.session.specs.Waiting.{HasCalled, pass_view}
use Rattle.session.proofs.Passing.{idle_seat, knows_leave, pass_stays}
use Rattle.session.proofs.Seats.{made_begins, not_memory, sees_itself, stays_halted, stays_itself}
use Rattle.session.proofs.session.Session.leave.Goals as goal

pub post_leave-requires-clause-idle : goal.post_leave-requires-clause-idle
post_leave-requires-clause-idle g c = idle_seat c.pass.inside.seat c.pass.inside.client c.pass.inside.spot c.pass.invariant

pub invariant_of-pass : goal.invariant_of-pass
invariant_of-pass g c =
    pass_stays c.pass.inside.seat c.post_leave.new.seat c.pass.inside.client c.pass.inside.spot c.pass.invariant c.post_leave.ensures.stays
    c.in_err-spot.ensures.none

pub returns-in_err-spot-clause-fault : goal.returns-in_err-spot-clause-fault
returns-in_err-spot-clause-fault g c =
    let q = pass_view c.post_leave.new.seat c.pass.inside.client c.pass.inside.spot in
    let fault = c.in_err-spot.field-0.0 in
    let is : c.from_residual.result ≡ Err fault = search rules in
    subst (λ r. IfErr r (ExplainsLeaving c.args.pass.now q)) (sym is)
    (subst (λ (p : PassView). ExplainsLeaving p q fault) c.pass.view_is c.in_err-spot.ensures.fault)

pub returns-clause-seen : goal.returns-clause-seen
returns-clause-seen g c =
    let old = c.pass.inside.seat in
    let new = c.post_leave.new.seat in
    subst (λ (p : PassView). Begins p.seen new.seen) c.pass.view_is
    (made_begins old new (left c.pass.inside.client) c.in_ok-spot.ensures.made)

pub returns-clause-left : goal.returns-clause-left
returns-clause-left g c =
    let old = c.pass.inside.seat in
    let new = c.post_leave.new.seat in
    let client = c.pass.inside.client in
    let last = c.in_ok-spot.ensures.spot.1 in
    let called : HasCalled old new new client (left client) c.pass.inside.spot c.in_ok-spot.spot = record {
      pass = c.pass.invariant;
      running =
          not_memory _ (HasHalted old.seen)
          (λ h. c.in_ok-spot.ensures.halted
          (stays_halted old.seen new.seen (made_begins old new (left client) c.in_ok-spot.ensures.made) h));
      first = c.post_leave.ensures.stays;
      makes = c.in_ok-spot.ensures.made;
      owns = c.post_leave.ensures.own;
      stays = stays_itself new;
      more = sees_itself new;
      own = c.post_leave.ensures.own;
      behind = omega (arith, last);
    } in
    subst (λ (p : PassView). KnowsLeave p (pass_view new client c.in_ok-spot.spot)) c.pass.view_is
    (knows_leave old new client c.pass.inside.spot c.in_ok-spot.spot called last)
