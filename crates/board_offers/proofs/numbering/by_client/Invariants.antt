use Rattle.std.specs.Prelude.{◌≡◌, ◌≤◌, length, map, drop}
use Rattle.log_states.specs.Views.{pending_of}
use Rattle.board_offers.specs.Numbering.{AreNumbers}
use Rattle.board_offers.specs.Offers.{offer_at}
use Rattle.board_offers.specs.Waiting as waiting
use Rattle.board_offers.proofs.numbering.by_client.Given as goal

abbrev pub invariant-loop-left : goal.invariant-loop-left
invariant-loop-left l = record {
  within : l.left ≤ length l.all;
  order : map (offer_at (map pending_of l.all)) l.numbers.items ≡ waiting.by_client (drop l.left (map pending_of l.all));
  numbers : AreNumbers (length l.all) l.numbers.items;
}

abbrev pub decreases-loop-left : goal.decreases-loop-left
decreases-loop-left l = l.left
