-- Who takes part in a session, before and after what it does. (This profile.)
use Rattle.std.specs.Prelude.{◌≡◌, ◌<◌, [], ◌∷◌, List, length, map, true, false}
use Rattle.spec_core.specs.Code.{program_of}
use Rattle.spec_core.specs.Lists.{Each}
use Rattle.rule_model.specs.Wishes.{Wish}
use Rattle.rule_model.specs.declared.wish.ClientWish.{ClientWish}
use Rattle.rule_model.specs.WishViews.{wish_of}
use Rattle.session_laws.specs.Wishes.{wishes_by}
use Rattle.session_board.specs.Lines.{events_in}
use Rattle.board_laws.specs.JobValues.{GivesValues}
use Rattle.session.specs.Passes.{PassView, WorkPassView, HasLeft, SamePass}
use Rattle.session.specs.Sessions.{SessionView, IsClientOf, IsWorkerOf, who_of}
use Rattle.session_threads.specs.declared.rows.Row.{Row}
use Rattle.session_threads.specs.declared.rows.ServedClient.{ServedClient}
use Rattle.session_threads.specs.declared.rows.ServedWorker.{ServedWorker}
use Rattle.session_threads.specs.declared.rows.Row.TheVariants.{Client, Worker}

-- what a client wished, by the lines that it has made, in order
abbrev pub wishes_made : PassView → List Wish
wishes_made p = wishes_by p.client (events_in p.own)

-- each offer is at a gate of the session's specification, and gives values
abbrev pub FitSession : SessionView → List Wish → Type 0
FitSession s wishes =
    Each (λ (w : Wish).
    (w.offer.gate.0 < length (program_of s.lock.fixed.checked).gates) × GivesValues (program_of s.lock.fixed.checked).theory w.offer) wishes

-- the client has done nothing yet, and its offers are at gates of the specification, and give values
abbrev pub IsReadyClient : SessionView → PassView → List ClientWish → Type 0
IsReadyClient s pass wishes = IsClientOf s pass × (pass.own ≡ []) × FitSession s (map wish_of wishes)

-- so it is with a client; a worker is the session's
abbrev pub IsReadyRow : SessionView → Row → Type 0
IsReadyRow s (Client pass wishes is_done) = IsReadyClient s pass wishes.now
IsReadyRow s (Worker pass is_done) = IsWorkerOf s (who_of pass)

-- the same client with the same wishes, or the same worker
abbrev pub SameRow : Row → Row → Type 0
SameRow (Client p v is_done) (Client q w was_done) = SamePass p q × (w ≡ v)
SameRow (Worker p is_done) (Worker q was_done) = who_of q ≡ who_of p
SameRow _ _ = ⊥

-- where the row has done what it was to do, the client has made its offers, in order, and has left
abbrev pub IsServed : Row → Type 0
IsServed (Client pass wishes is_done) = is_done ≡ true → HasLeft pass × (wishes_made pass ≡ map wish_of wishes.now)
IsServed (Worker pass is_done) = Unit {0}

-- the same client, and the same pass where it wasn't begun with; where it has done what it was to do, it has made these offers, in order, and
-- has left
pub record IsServedClient (pass : PassView) (wishes : List ClientWish) (served : ServedClient) : Type 0 where
  pub same : SamePass pass served.pass
  pub not_begun : served.is_begun ≡ false → served.pass ≡ pass
  pub done : served.is_done ≡ true → HasLeft served.pass × (wishes_made served.pass ≡ map wish_of wishes)

-- the same worker
abbrev pub IsServedWorker : WorkPassView → ServedWorker → Type 0
IsServedWorker pass served = who_of served.pass ≡ who_of pass

-- the rows are served, one by one
abbrev pub AreServed : List Row → List Row → Type 0
AreServed [] [] = Unit {0}
AreServed (row ∷ rows) (new ∷ news) = SameRow row new × IsServed new × AreServed rows news
AreServed _ _ = ⊥

-- the row has done what it was to do
abbrev pub IsDone : Row → Type 0
IsDone (Client pass wishes is_done) = is_done ≡ true
IsDone (Worker pass is_done) = is_done ≡ true

-- the passes of the clients among the rows, in order
abbrev pub client_passes : List Row → List PassView
client_passes [] = []
client_passes (Client pass wishes is_done ∷ rows) = pass ∷ client_passes rows
client_passes (Worker pass is_done ∷ rows) = client_passes rows

-- the passes of the workers among the rows, in order
abbrev pub worker_passes : List Row → List WorkPassView
worker_passes [] = []
worker_passes (Client pass wishes is_done ∷ rows) = worker_passes rows
worker_passes (Worker pass is_done ∷ rows) = pass ∷ worker_passes rows

-- a worker that has done nothing yet
abbrev pub worker_row : WorkPassView → Row
worker_row pass = Worker pass false

-- the rows are those of clients with these passes and these wishes, in order, and other rows behind them
abbrev pub AreClientRows : List PassView → List (List Wish) → List Row → List Row → Type 0
AreClientRows [] [] behind rows = rows ≡ behind
AreClientRows (p ∷ passes) (wishes ∷ clients) behind (Client pass own_wishes is_done ∷ rows) =
    (pass ≡ p) × (map wish_of own_wishes.now ≡ wishes) × AreClientRows passes clients behind rows
AreClientRows _ _ _ _ = ⊥
