-- What the rules ask of the pending offers is sound.
use Rattle.board_offers.specs.Laws.{WaitingIsSound}
use Rattle.board_offers.specs.Waiting.{by_client}
use Rattle.board_offers.proofs.Members.{in_asks, in_by_client, by_client_in}

pub waiting_is_sound : WaitingIsSound
waiting_is_sound s = record {
  asks = λ p h. in_by_client s.pending p (in_asks (by_client s.pending) p h);
  by_client = λ p h. by_client_in s.pending p h;
  pending = λ p h. in_by_client s.pending p h;
}
