use Rattle.std.proofs.Common.{◌≡◌}
use Rattle.worker_drive.specs.Counts.{raised_by}
use Rattle.worker_drive.proofs.worker.drive.Given as goal

abbrev pub invariant-loop : goal.invariant-loop
invariant-loop g l =
    let D = g.D.Desk in
    (D.who l.seat ≡ D.who l.fn.seat) × (D.taken l.seat ≡ raised_by l.jobs (D.taken l.fn.seat)) ×
    (D.handed l.seat ≡ raised_by l.jobs (D.handed l.fn.seat)) × (D.halted l.fn.seat → D.halted l.seat)
