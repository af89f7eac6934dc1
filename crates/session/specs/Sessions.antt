-- A session, as contracts see it. (This profile.)
use Rattle.std.specs.Prelude.{ℕ, ◌+◌, ◌≡◌, ◌≤◌, List}
use Rattle.spec_core.specs.declared.code.Checked.{Checked}
use Rattle.run_settings.specs.declared.settings.Settings.{Settings}
use Rattle.spec_core.specs.declared.window.Window.{Window}
use Rattle.spec_core.specs.Code.{program_of}
use Rattle.spec_core.specs.Ready.{IsReady}
use Rattle.sort_windows.specs.Found.{AreBySorts}
use Rattle.board_core.specs.Working.{IsOfValues}
use Rattle.symbolic_rules.specs.Tables.{windows_in}
use Rattle.turn_lock.specs.Seats.{LockId, LockModel, SeatModel, IsAtRest}
use Rattle.board_work.specs.declared.outcome.Outcome.{Outcome}
use Rattle.board_work.specs.Outcomes.{IsOutcome}
use Rattle.session_board.specs.declared.fixed.FixedPart.{FixedPart}
use Rattle.session_board.specs.declared.line.Line.{Line}
use Rattle.session_board.specs.declared.shared.TakenJob.{TakenJob}
use Rattle.session_board.specs.Lines.{AllHaveLeft}
use Rattle.session.specs.Passes.{PassView, WorkPassView}

-- the lock round the board, which tells the specification, the settings, the number of clients and the windows; and the number of workers
pub record SessionView : Type 0 where
  pub lock : LockModel FixedPart
  pub workers : ℕ

-- What holds of a session: its own copies are equal to the part that stays; there is a seat for each client, for each worker, and one more,
-- which the session keeps.
pub record IsWellMade (lock : LockModel FixedPart) (checked : Checked) (settings : Settings) (windows : List Window) (workers : ℕ)
    (keeper : SeatModel Line) : Type 0 where
  pub program_is : program_of checked ≡ program_of lock.fixed.checked
  pub settings_are : settings ≡ lock.fixed.settings
  pub windows_are : windows_in windows ≡ windows_in lock.fixed.windows
  pub ready : IsReady (program_of checked)
  pub rows : (k : ℕ) × AreBySorts (program_of checked).theory k windows
  pub seats : lock.seats ≡ lock.fixed.clients + workers + 1
  pub keeper_rests : IsAtRest lock.id keeper
  pub keeper_is_last : keeper.number ≡ lock.fixed.clients + workers

-- the pass is the session's
pub record IsClientOf (s : SessionView) (p : PassView) : Type 0 where
  pub lock : p.lock ≡ s.lock.id
  pub first : 1 ≤ p.client
  pub last : p.client ≤ s.lock.fixed.clients

-- who a worker is
pub record Who : Type 0 where
  pub lock : LockId
  pub number : ℕ
  pub clients : ℕ

abbrev pub who_of : WorkPassView → Who
who_of p = record { lock = p.lock; number = p.number; clients = p.clients }

abbrev pub IsWorkerOf : SessionView → Who → Type 0
IsWorkerOf s who = (who.lock ≡ s.lock.id) × (who.clients ≡ s.lock.fixed.clients)

-- this came of the job, over what the session was made with
abbrev pub FitsJob : SessionView → TakenJob → Outcome → Type 0
FitsJob s taken outcome =
    IsOutcome (program_of s.lock.fixed.checked) (windows_in s.lock.fixed.windows) s.lock.fixed.settings.budget taken.job outcome

-- a job needs nothing but what the session was made with; its tree of rules, if it has one, chooses values
abbrev pub IsGiven : SessionView → TakenJob → Type 0
IsGiven s taken = IsOfValues (program_of s.lock.fixed.checked) taken.job

-- each client has left, as far as the pass has seen
abbrev pub IsOver : WorkPassView → Type 0
IsOver p = AllHaveLeft p.clients p.seen

-- some client hasn't left, as far as the pass has seen
abbrev pub IsOpen : WorkPassView → Type 0
IsOpen p = AllHaveLeft p.clients p.seen → ⊥
