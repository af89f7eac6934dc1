-- What workers do. (This profile.)
use Rattle.std.specs.Prelude.{ℕ, ◌≡◌, ◌<◌, List, length}
use Rattle.worker_drive.specs.Counts.{raised_by}
use Rattle.session.specs.declared.desk.Did.{Did}
use Rattle.session.specs.declared.desk.Did.TheVariants.{Job, Settled, Idle, Over}
use Rattle.session_board.specs.declared.line.Line.{Line}
use Rattle.session_board.specs.declared.shared.Look.{Look}
use Rattle.session_board.specs.declared.shared.Look.TheVariants as look
use Rattle.session_board.specs.declared.shared.TakenJob.{TakenJob}
use Rattle.session_board.specs.declared.shared.Work.{Work}
use Rattle.session_board.specs.declared.shared.Work.TheVariants as work
use Rattle.session_board.specs.Lines.{AllHaveLeft}
use Rattle.session.specs.Passes.{WorkPassView}

-- what a turn of a worker tells of the list that its seat has seen
abbrev pub ComesOfSeat : ℕ → List Line → List Line → Work → Type 0
ComesOfSeat clients old new (work.Free job) = Unit {0}
ComesOfSeat clients old new work.Settled = length old < length new
ComesOfSeat clients old new work.Idle = AllHaveLeft clients new → ⊥
ComesOfSeat clients old new work.Over = AllHaveLeft clients new

-- P holds of the job that a worker finds, and a client, if it finds one

abbrev pub OnWork : (TakenJob → Type 0) → Work → Type 0
OnWork P (work.Free taken) = P taken
OnWork P _ = Unit {0}

abbrev pub OnLook : (TakenJob → Type 0) → Look → Type 0
OnLook P (look.Free taken) = P taken
OnLook P _ = Unit {0}

-- it took and put as many jobs as before
abbrev pub SameJobs : WorkPassView → WorkPassView → Type 0
SameJobs old new = (new.taken ≡ old.taken) × (new.handed ≡ old.handed)

-- it took and put one job more
abbrev pub OneJobMore : WorkPassView → WorkPassView → Type 0
OneJobMore old new = (new.taken ≡ raised_by 1 old.taken) × (new.handed ≡ raised_by 1 old.handed)

-- what a worker did: a job, which it took and put; an entry; or there was nothing to do, and some client hasn't left, or all have
abbrev pub ComesOfDoing : WorkPassView → WorkPassView → Did → Type 0
ComesOfDoing old new Job = OneJobMore old new
ComesOfDoing old new Settled = SameJobs old new × (length old.seen < length new.seen)
ComesOfDoing old new Idle = SameJobs old new × (AllHaveLeft old.clients new.seen → ⊥)
ComesOfDoing old new Over = SameJobs old new × AllHaveLeft old.clients new.seen
