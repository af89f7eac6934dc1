-- What a desk answers to a look for a job.
use Rattle.std.specs.Prelude.{ℕ, Result, Ok, Err, ⊤}
use Rattle.worker_drive.specs.declared.desk.Offered.{Offered}
use Rattle.worker_drive.specs.declared.desk.Offered.TheVariants.{Job, Idle, Over}

module _ {J E : Type 0} where
  -- where a job is given, P holds of it
  abbrev pub IfJob : Result (Offered J) E → (J → Type 0) → Type 0
  IfJob (Ok (Job job)) P = P job
  IfJob (Ok Idle) P = ⊤
  IfJob (Ok Over) P = ⊤
  IfJob (Err e) P = ⊤

  -- where the answer is that there is no job now, P holds
  abbrev pub OnIdle : Result (Offered J) E → Type 0 → Type 0
  OnIdle (Ok (Job job)) P = ⊤
  OnIdle (Ok Idle) P = P
  OnIdle (Ok Over) P = ⊤
  OnIdle (Err e) P = ⊤

  -- where the answer is that the desk is over, P holds
  abbrev pub OnOver : Result (Offered J) E → Type 0 → Type 0
  OnOver (Ok (Job job)) P = ⊤
  OnOver (Ok Idle) P = ⊤
  OnOver (Ok Over) P = P
  OnOver (Err e) P = ⊤

  -- how many jobs are given: one or none
  abbrev pub jobs_in : Result (Offered J) E → ℕ
  jobs_in (Ok (Job job)) = 1
  jobs_in (Ok Idle) = 0
  jobs_in (Ok Over) = 0
  jobs_in (Err e) = 0
