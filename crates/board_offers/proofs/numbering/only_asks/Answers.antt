use Rattle.std.proofs.Common.{rules, ◌≡◌, ◌<◌, map, length, get_or}
use Rattle.log_states.specs.Views.{pending_of}
use Rattle.board_offers.specs.Offers.{offer_at}
use Rattle.board_offers.proofs.Places.{asks_next, each_at}
use Rattle.board_offers.proofs.numbering.only_asks.Goals as goal

pub loop-number-preserved : goal.loop-number-preserved
loop-number-preserved c =
    let ns = c.args.numbers.now in
    let i = c.loop-number.number-index in
    let within : i < length ns = search rules in
    let at : get_or ns i 0 ≡ get_or ns i (get_or ns i 0) = search rules in
    let below : get_or ns i 0 < length c.args.all.now =
    each_at (λ m. m < length c.args.all.now) ns i (get_or ns i 0) c.requires.numbers within at in
    record {
      asks = asks_next (offer_at (map pending_of c.args.all.now)) ns i (get_or ns i 0) c.loop-number.those.items _ within at
          c.loop-number.invariant.asks c.in_ok-keep_ask.ensures.asks;
      numbers = c.in_ok-keep_ask.ensures.numbers (length c.args.all.now) below c.loop-number.invariant.numbers;
    }
