use Rattle.std.proofs.Common.{◌≡◌, ◌≤◌, ◌∙◌, arith, refl, subst}
use Rattle.rule_model.specs.Answers.{answer_of}
use Rattle.session_board.specs.Looks.{ComesOfLook}
use Rattle.session.specs.Passes.{KnowsAnswer, SamePass}
use Rattle.session.specs.Waiting.{WaitingView, pass_view}
use Rattle.session.proofs.Passing.{waiting_knows, waiting_pass, waiting_same, waits_on}
use Rattle.session_board.proofs.Growing.{spot_stays}
use Rattle.session.proofs.session.Session.go_on.Goals as goal

pub invariant_of-result : goal.invariant_of-result
invariant_of-result g c =
    let i = c.waiting.inside in
    let w : WaitingView = record { before = i.before.value; offer = i.offer.value; ask = i.ask } in
    let new = c.look.new.seat in
    let on = waits_on w i.seat new i.client i.number i.spot c.in_ok-spot.spot c.waiting.invariant c.look.ensures.stays c.look.ensures.none
    c.look.ensures.own c.in_ok-spot.ensures.spot.1 c.in_ok-spot.ensures.spot.0 in
    let found = subst (ComesOfLook new.seen (i.client, i.number) c.in_ok-spot.spot) c.in-Answered.is c.in_ok-spot.ensures.found in
    waiting_pass w new i.client i.number c.in_ok-spot.spot on found.1

pub returns-in-Answered : goal.returns-in-Answered
returns-in-Answered g c =
    let i = c.waiting.inside in
    let w : WaitingView = record { before = i.before.value; offer = i.offer.value; ask = i.ask } in
    let new = c.look.new.seat in
    let pass = pass_view new i.client c.in_ok-spot.spot in
    let on = waits_on w i.seat new i.client i.number i.spot c.in_ok-spot.spot c.waiting.invariant c.look.ensures.stays c.look.ensures.none
    c.look.ensures.own c.in_ok-spot.ensures.spot.1 c.in_ok-spot.ensures.spot.0 in
    let found = subst (ComesOfLook new.seen (i.client, i.number) c.in_ok-spot.spot) c.in-Answered.is c.in_ok-spot.ensures.found in
    record {
      waits =
          subst (λ (v : WaitingView). SamePass v.before pass × KnowsAnswer v.before v.offer v.ask (answer_of c.in-Answered.reply) pass)
          c.waiting.view_is (
            waiting_same w new i.client i.number c.in_ok-spot.spot on,
            waiting_knows w new i.client i.number c.in_ok-spot.spot (answer_of c.in-Answered.reply) on found.0,
          );
    }

pub invariant_of-result-in-Settled : goal.invariant_of-result-in-Settled
invariant_of-result-in-Settled g c =
    let i = c.waiting.inside in
    let w : WaitingView = record { before = i.before.value; offer = i.offer.value; ask = i.ask } in
    waits_on w i.seat c.look.new.seat i.client i.number i.spot c.in_ok-spot.spot c.waiting.invariant c.look.ensures.stays
    c.look.ensures.none c.look.ensures.own c.in_ok-spot.ensures.spot.1 c.in_ok-spot.ensures.spot.0

pub invariant_of-result-in-Idle : goal.invariant_of-result-in-Idle
invariant_of-result-in-Idle g c =
    let i = c.waiting.inside in
    let w : WaitingView = record { before = i.before.value; offer = i.offer.value; ask = i.ask } in
    waits_on w i.seat c.look.new.seat i.client i.number i.spot c.in_ok-spot.spot c.waiting.invariant c.look.ensures.stays
    c.look.ensures.none c.look.ensures.own c.in_ok-spot.ensures.spot.1 c.in_ok-spot.ensures.spot.0

pub invariant_of-result-in-Free : goal.invariant_of-result-in-Free
invariant_of-result-in-Free g c =
    let i = c.waiting.inside in
    let w : WaitingView = record { before = i.before.value; offer = i.offer.value; ask = i.ask } in
    let place = c.in_ok-spot.spot in
    let looked = c.look.new.seat in
    let new = c.hand_in.new.seat in
    let on = waits_on w i.seat looked i.client i.number i.spot place c.waiting.invariant c.look.ensures.stays c.look.ensures.none
    c.look.ensures.own c.in_ok-spot.ensures.spot.1 c.in_ok-spot.ensures.spot.0 in
    let none = c.hand_in.ensures.none in
    waits_on w looked new i.client i.number place place on c.hand_in.ensures.stays none c.hand_in.ensures.own (let e : place.lines ≤ place.lines = omega arith in e)
    (spot_stays looked.seen new.seen place none.0 c.in_ok-spot.ensures.spot.0)
