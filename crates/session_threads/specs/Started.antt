-- Rows whose threads have been started. (This profile.)
use Rattle.std.specs.Prelude.{◌≡◌, [], ◌∷◌, List}
use Rattle.session.specs.Sessions.{SessionView}
use Rattle.session_threads.specs.declared.rows.Row.{Row}
use Rattle.session_threads.specs.declared.rows.Row.TheVariants.{Client, Worker}
use Rattle.session_threads.specs.declared.rows.ServedClient.{ServedClient}
use Rattle.session_threads.specs.declared.rows.ServedWorker.{ServedWorker}
use Rattle.session_threads.specs.declared.threads.Started.{Started}
use Rattle.session_threads.specs.declared.threads.Started.TheVariants.{ClientThread, WorkerThread, Here}
use Rattle.session_threads.specs.Rows.{IsServedClient, IsServedWorker, SameRow}
use Rattle.session_threads.specs.Stepping.{IsAllDone, IsSound, row_of}

-- what the row's thread leaves, by its promise, is this client or worker, served; or the row is served here
abbrev pub IsStarted : Row → Started → Type 0
IsStarted (Client pass wishes was_done) (ClientThread thread were) =
    (were ≡ wishes)
    × ((served : ServedClient) → IsServedClient thread.promise.pass.value thread.promise.wishes.now served →
    IsServedClient pass wishes.now served)
IsStarted (Worker pass was_done) (WorkerThread thread) =
    (served : ServedWorker) → IsServedWorker thread.promise.pass.value served → IsServedWorker pass served
IsStarted row (Here state) = SameRow row (row_of state)
IsStarted _ _ = ⊥

-- so it is with each row, in order
abbrev pub AreStarted : List Row → List Started → Type 0
AreStarted [] [] = Unit {0}
AreStarted (row ∷ rows) (one ∷ all) = IsStarted row one × AreStarted rows all
AreStarted _ _ = ⊥

-- of a row that is served here it is known what is
abbrev pub IsFit : SessionView → Started → Type 0
IsFit s (Here state) = IsSound s state
IsFit s _ = Unit {0}

-- a row that is served here has done all that it was to do
abbrev pub IsHereDone : Started → Type 0
IsHereDone (Here state) = IsAllDone state
IsHereDone _ = Unit {0}

-- the rows that were started as these are started as those
abbrev pub StaysStarted : List Started → List Started → Type 0
StaysStarted old new = (rows : List Row) → AreStarted rows old → AreStarted rows new
