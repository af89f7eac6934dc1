use Rattle.log_states.specs.Views.{state_of}
use Rattle.board_offers.specs.Waiting.{all_have_offers}
use Rattle.board_offers.proofs.AllWait.{all_wait_is_decided, same_truth}
use Rattle.board_offers.proofs.waiting.all_wait.Goals as goal

pub returns : goal.returns
returns c =
    let s = state_of c.args.session.now in
    same_truth c.all_wait.result (all_have_offers s.open_clients s.pending)
    (λ h. (all_wait_is_decided s).1 ((c.all_wait.ensures s.behaviour).0 h)) (λ h. (c.all_wait.ensures s.behaviour).1 ((all_wait_is_decided s).0 h))
