use Rattle.std.specs.Prelude.{◌≡◌, length, map, take}
use Rattle.log_states.specs.Views.{pending_of}
use Rattle.board_offers.specs.Numbering.{AreNumbers}
use Rattle.board_offers.specs.Offers.{offer_at}
use Rattle.board_offers.proofs.numbering.in_order.Given as goal

abbrev pub invariant-loop-number : goal.invariant-loop-number
invariant-loop-number l = record {
  order : map (offer_at (map pending_of l.all)) l.numbers.items ≡ take l.number (map pending_of l.all);
  numbers : AreNumbers (length l.all) l.numbers.items;
}
