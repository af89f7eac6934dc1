use Rattle.std.specs.Prelude.{◌≡◌, length, map, take}
use Rattle.log_states.specs.Views.{pending_of}
use Rattle.board_offers.specs.Numbering.{AreNumbers}
use Rattle.board_offers.specs.Offers.{offer_at}
use Rattle.board_offers.specs.Waiting as waiting
use Rattle.board_offers.proofs.numbering.only_asks.Given as goal

abbrev pub invariant-loop-number : goal.invariant-loop-number
invariant-loop-number l = record {
  asks : map (offer_at (map pending_of l.all)) l.those.items ≡
      waiting.only_asks (map (offer_at (map pending_of l.all)) (take l.number-index l.numbers));
  numbers : AreNumbers (length l.all) l.those.items;
}
