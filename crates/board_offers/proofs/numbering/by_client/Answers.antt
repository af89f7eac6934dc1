use Rattle.std.proofs.Common.{rules, ◌≡◌, ◌<◌, ◌+◌, ◌-◌, ◌∙◌, ap, sym, arith, map, length}
use Rattle.std.proofs.lemmas.List.{length-map}
use Rattle.log_states.specs.Views.{pending_of}
use Rattle.board_offers.specs.Offers.{offer_at}
use Rattle.board_offers.specs.Waiting as waiting
use Rattle.board_offers.proofs.Places.{by_client_from}
use Rattle.board_offers.proofs.numbering.by_client.Goals as goal

pub loop-left-preserved : goal.loop-left-preserved
loop-left-preserved c =
    let ps = map pending_of c.args.all.now in
    let some = c.loop-left-test.true in
    let within = c.loop-left.invariant.within in
    let below : c.loop-left.left - 1 < length c.args.all.now = search rules in
    let step : c.loop-left.left ≡ c.loop-left.left - 1 + 1 = search rules in
    let there : c.loop-left.left - 1 < length ps = omega (arith, below, length-map c.args.all.now pending_of) in
    record {
      within = search rules;
      order = c.in_ok-put.ensures.among ∙ ap (waiting.insert_by_client (offer_at ps (c.loop-left.left - 1))) c.loop-left.invariant.order
          ∙ sym (by_client_from ps (c.loop-left.left - 1) c.loop-left.left there step);
      numbers = c.in_ok-put.ensures.numbers (length c.args.all.now) below c.loop-left.invariant.numbers;
    }
