use Rattle.std.proofs.Common.{◌≡◌, map, subst}
use Rattle.std.proofs.lemmas.Result.{IfOk-weaker}
use Rattle.candidates.specs.Models.{job_of}
use Rattle.decision_order.specs.Numbered.{waiting_with}
use Rattle.decision_order.specs.Searches.{waiting_of}
use Rattle.board_offers.specs.Offers.{offer_at}
use Rattle.board_offers.specs.Waiting.{waiting_in}
use Rattle.board_core.proofs.Knowing.{IsOf, found_jobs}
use Rattle.board_core.proofs.board.Board.next_tasks.Goals as goal

pub returns : goal.returns
returns c =
    let v = c.args.self.now in
    let k = c.in_ok-known.known in
    let o = c.in_ok-offers.offers in
    let h = c.in_ok-known.ensures in
    let is : IsOf v k = record { algebra = h.algebra; windows = h.windows; tree = h.tree; pieces = h.pieces; offers = h.offers } in
    let asked = subst (λ s. waiting_with (offer_at s.pending) (waiting_of o) ≡ waiting_in s) c.state.ensures c.in_ok-offers.ensures.waiting in
    record {
      jobs = IfOk-weaker c.next_jobs.result _ _ (λ jobs e. found_jobs v k is o asked c.args.limit v.out h.out (map job_of jobs.items) e)
          c.next_jobs.ensures.jobs;
    }
