use Rattle.board_offers.proofs.Derivations.{pending_clients_differ}
use Rattle.board_offers.proofs.laws.pending_clients_differ.Goals as goal

pub returns : goal.returns
returns c = pending_clients_differ
