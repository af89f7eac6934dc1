use Rattle.std.specs.Prelude.{◌≡◌, map, take}
use Rattle.rule_model.specs.Answering.{name_of}
use Rattle.log_states.specs.Views.{pending_of}
use Rattle.board_offers.specs.Offers.{offer_at}
use Rattle.board_offers.proofs.waiting.names.Given as goal

abbrev pub invariant-loop-number : goal.invariant-loop-number
invariant-loop-number l = l.names.items ≡ map name_of (map (offer_at (map pending_of l.all)) (take l.number-index l.numbers))
