use Rattle.std.proofs.Common.{◌≡◌, ◌∙◌, arith, ap, subst, sym}
use Rattle.rule_model.specs.Events.{pended}
use Rattle.rule_model.specs.declared.offer.Offer.{Offer}
use Rattle.session.specs.Calls.{HasMade}
use Rattle.session.specs.Passes.{HasHalted, PassView}
use Rattle.session.proofs.Passing.{idle_seat}
use Rattle.session.proofs.Seats.{made_begins, not_memory, sees_itself, stays_halted, stays_itself}
use Rattle.session.proofs.session.Session.begin.Goals as goal

pub post-requires-clause-idle : goal.post-requires-clause-idle
post-requires-clause-idle g c = idle_seat c.pass.inside.seat c.pass.inside.client c.pass.inside.spot c.pass.invariant

pub invariant_of-result : goal.invariant_of-result
invariant_of-result g c =
    let old = c.pass.inside.seat in
    let made = c.post.new.seat in
    let event = pended c.pass.inside.client c.in-Ok.number c.args.offer.now c.args.ask in
    let last = c.in-Ok.ensures.spot.1 in
    let was = c.of-before.ensures ∙ sym c.pass.view_is in
    record {
      old = old;
      made = made;
      spot = c.pass.inside.spot;
      was = was;
      lock = c.post.ensures.stays.0 ∙ sym (ap (λ (p : PassView). p.lock) was);
      rests = c.post.ensures.stays.2 ∙ c.pass.invariant.rests;
      called = record {
        pass = c.pass.invariant;
        running =
            not_memory _ (HasHalted old.seen)
            (λ h. c.in-Ok.ensures.halted (stays_halted old.seen made.seen (made_begins old made event c.in-Ok.ensures.made) h));
        first = c.post.ensures.stays;
        makes =
            subst (λ (o : Offer). HasMade old made (pended c.pass.inside.client c.in-Ok.number o c.args.ask)) (sym c.of.ensures)
            c.in-Ok.ensures.made;
        owns = c.post.ensures.own;
        stays = stays_itself made;
        more = sees_itself made;
        own = c.post.ensures.own;
        behind = omega (arith, last);
      };
      spot_is = c.in-Ok.ensures.spot.0;
    }
