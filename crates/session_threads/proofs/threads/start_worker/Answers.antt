use denote.Param.Send.{sendable}
use Rattle.std.proofs.Common.{subst, sym}
use Rattle.session.proofs.Crossing.{session_sync, work_pass_send}
use Rattle.session_threads.specs.Rows.{IsServedWorker}
use Rattle.session_threads.specs.declared.rows.ServedWorker.{ServedWorker}
use Rattle.session_threads.proofs.Crossing.{job_send, refusals_sync, served_worker_send}
use Rattle.session_threads.proofs.threads.start_worker.Goals as goal

pub start-requires-send-F : goal.start-requires-send-F
start-requires-send-F g c κs within =
    search (job_send, session_sync, work_pass_send, refusals_sync, sendable) depth 60 fits 20000

pub start-requires-send-T : goal.start-requires-send-T
start-requires-send-T g c κs within = search (served_worker_send, sendable) depth 60 fits 20000

pub start-requires-clause-keeps : goal.start-requires-clause-keeps
start-requires-clause-keeps g c κs within =
    λ r is. (
      subst (λ p. IsServedWorker p r) (sym c.worker_promise-promise.ensures.pass) is,
      subst (λ p. IsServedWorker p r) (sym c.worker_promise-again.ensures.pass) is,
    )

pub returns-in-Ok : goal.returns-in-Ok
returns-in-Ok g c =
    let promised = c.worker_promise-promise in
    let thread = c.in-Ok.thread in
    let kept : (served : ServedWorker) → IsServedWorker thread.promise.pass.value served → IsServedWorker c.args.pass served =
    λ served is. subst (λ p. IsServedWorker p served) promised.ensures.pass (c.in-Ok.ensures.started served is) in
    record { started = λ was_done. kept; fit = tt }
