use denote.Param.Send.{sendable}
use Rattle.std.proofs.Common.{refl, subst, sym, true}
use Rattle.session.proofs.Crossing.{pass_send, session_sync}
use Rattle.session_threads.specs.Rows.{IsServedClient}
use Rattle.session_threads.specs.declared.rows.ServedClient.{ServedClient}
use Rattle.session_threads.proofs.Crossing.{job_send, refusals_sync, served_client_send, wish_sync}
use Rattle.session_threads.proofs.threads.start_client.Goals as goal

pub start-requires-send-F : goal.start-requires-send-F
start-requires-send-F g c κs within =
    search (job_send, session_sync, pass_send, wish_sync, refusals_sync, sendable) depth 60 fits 20000

pub start-requires-send-T : goal.start-requires-send-T
start-requires-send-T g c κs within = search (served_client_send, sendable) depth 60 fits 20000

pub start-requires-clause-keeps : goal.start-requires-clause-keeps
start-requires-clause-keeps g c κs within =
    let first = c.client_promise-promise in
    let again = c.client_promise-again in
    λ r is. (
      subst (λ p. IsServedClient p first.result.wishes.now r) (sym first.ensures.pass)
          (subst (λ l. IsServedClient c.args.pass l r) (sym first.ensures.wishes) is),
      subst (λ p. IsServedClient p again.result.wishes.now r) (sym again.ensures.pass)
          (subst (λ l. IsServedClient c.args.pass l r) (sym again.ensures.wishes) is),
    )

pub returns-in-Err-clause-started : goal.returns-in-Err-clause-started
returns-in-Err-clause-started g c =
    let e = c.in-Err.ensures.refused in
    let is : IsServedClient c.args.pass c.args.wishes.now c.job.result =
    subst (λ p. IsServedClient p c.args.wishes.now c.job.result) (λ i. (e i).2)
    (subst (λ l. IsServedClient c.in-Err.refused.value.2 l c.job.result) (λ i. (e i).3.now) c.job.ensures) in
    λ was_done. (c.client_here.ensures.here c.args.session.now c.args.pass was_done c.requires.client is).0

pub returns-in-Err-clause-fit : goal.returns-in-Err-clause-fit
returns-in-Err-clause-fit g c =
    let e = c.in-Err.ensures.refused in
    let is : IsServedClient c.args.pass c.args.wishes.now c.job.result =
    subst (λ p. IsServedClient p c.args.wishes.now c.job.result) (λ i. (e i).2)
    (subst (λ l. IsServedClient c.in-Err.refused.value.2 l c.job.result) (λ i. (e i).3.now) c.job.ensures) in
    (c.client_here.ensures.here c.args.session.now c.args.pass true c.requires.client is).1

pub returns-in-Ok : goal.returns-in-Ok
returns-in-Ok g c =
    let promised = c.client_promise-promise in
    let thread = c.in-Ok.thread in
    let kept : (served : ServedClient) → IsServedClient thread.promise.pass.value thread.promise.wishes.now served →
    IsServedClient c.args.pass c.args.wishes.now served =
    λ served is.
    subst (λ p. IsServedClient p c.args.wishes.now served) promised.ensures.pass
    (subst (λ l. IsServedClient promised.result.pass.value l served) promised.ensures.wishes (c.in-Ok.ensures.started served is)) in
    record { started = λ was_done. (refl, kept); fit = tt }
