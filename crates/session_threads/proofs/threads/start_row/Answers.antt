use Rattle.std.proofs.Common.{subst, sym}
use Rattle.session_threads.specs.Started.{IsStarted}
use Rattle.session_threads.proofs.threads.start_row.Goals as goal

pub returns-in-Client-clause-started : goal.returns-in-Client-clause-started
returns-in-Client-clause-started g c =
    subst (λ r. IsStarted r c.start_client.result) (sym c.in-Client.is) (c.start_client.ensures.started c.in-Client.is_done)

pub returns-in-Worker-clause-started : goal.returns-in-Worker-clause-started
returns-in-Worker-clause-started g c =
    subst (λ r. IsStarted r c.start_worker.result) (sym c.in-Worker.is) (c.start_worker.ensures.started c.in-Worker.is_done)
