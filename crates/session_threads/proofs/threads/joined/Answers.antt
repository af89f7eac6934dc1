use Rattle.std.proofs.Common.{refl, subst, sym}
use Rattle.session_threads.specs.declared.rows.Row.TheVariants.{Client}
use Rattle.session_threads.specs.Started.{IsStarted}
use Rattle.session_threads.proofs.Spawning.{IsLeft, IsRowLeft, client_joined, here_joined, worker_joined}
use Rattle.session_threads.proofs.threads.joined.Goals as goal

pub returns-in-ClientThread : goal.returns-in-ClientThread
returns-in-ClientThread g c =
    let served = c.join-pass.result in
    let new = Client served.pass c.in-ClientThread.wishes served.is_done in
    record {
      served = λ row h.
          client_joined row c.args.started served new
          (subst (λ s. IsRowLeft s served new) (sym c.in-ClientThread.is) (c.join-pass.ensures, refl)) h;
    }

pub returns-in-WorkerThread : goal.returns-in-WorkerThread
returns-in-WorkerThread g c =
    let served = c.join-pass-in-WorkerThread.result in
    record {
      served = λ row h.
          worker_joined row c.args.started served
          (subst (λ s. IsLeft s served) (sym c.in-WorkerThread.is) c.join-pass-in-WorkerThread.ensures) h;
    }

pub returns-in-Here : goal.returns-in-Here
returns-in-Here g c = record {
  served = λ row h.
      here_joined row c.in-Here.state c.row.result c.row.ensures.row c.row.ensures.served (subst (IsStarted row) c.in-Here.is h);
}
