-- What holds when a session is closed.
use Rattle.std.proofs.Common.{ℕ, ◌+◌, ◌≤◌, ◌<◌, ◌≡◌, ◌∙◌, sym, ap, subst, List, [], map, Contains, false}
use Rattle.std.specs.Prelude.{All}
use Rattle.std.proofs.lemmas.List.Elements.{All-contains, All-contains_itself, All-weaker}
use Rattle.spec_core.specs.Code.{program_of}
use Rattle.turn_lock.specs.Entries.{Begins}
use Rattle.turn_lock.specs.Seats.{AgreesWith, IsAtRest, LockModel, SeatModel}
use Rattle.rule_model.specs.Events.{Ending, Event}
use Rattle.board_core.specs.Views.{BoardView, program, state}
use Rattle.session_laws.specs.Sessions.{IsWholeSession}
use Rattle.session_closing.specs.Closing.{IsClosedOff}
use Rattle.session_board.specs.declared.fixed.FixedPart.{FixedPart}
use Rattle.session_board.specs.declared.line.Line.{Line}
use Rattle.session_board.specs.Answers.{HasItsAnswers}
use Rattle.session_board.specs.Lines.{events_in, maker_of}
use Rattle.session_board.specs.Shared.{SharedView, HasDrivenLog, fixed_part, lines}
use Rattle.session.specs.Closing.{AreAllClients, AreAllWorkers, AreSeatsOf, HasItsEntries, HasSeat, IsSeatOf, IsSeatOfWorker}
use Rattle.session.specs.Passes.{PassView, WorkPassView, HasHalted}
use Rattle.session.specs.Sessions.{IsClientOf, IsWorkerOf, SessionView, who_of}
use Rattle.session.proofs.Closed.{begins_there, has_its_entries, none_pending}
use Rattle.session.proofs.Collecting.{all_rest, client_has_seat, complete, from_mapped, worker_has_seat}
use Rattle.session.proofs.Seats.{has_its_answers, isnt_halted, stays_halted}

-- what holds of each element of a list
each_of : {X : Type 0} (P : X → Type 0) (xs : List X) → ((x : X) → Contains xs x → P x) → All P xs
each_of P xs f = All-weaker (Contains xs) P f xs (All-contains_itself xs)

module _ (s : SessionView) (lock : LockModel FixedPart) (workers : ℕ) (view : record { lock = lock; workers = workers } ≡ s)
    (passes : List PassView) (works : List WorkPassView) (keeper : SeatModel Line) (all : List (SeatModel Line))
    (seats : AreSeatsOf passes works keeper all) where
  lock_is : s.lock ≡ lock
  lock_is = ap (λ (x : SessionView). x.lock) (sym view)

  clients_are : s.lock.fixed.clients ≡ lock.fixed.clients
  clients_are = ap (λ (l : LockModel FixedPart). l.fixed.clients) lock_is

  -- each seat rests at the lock, and they are those of all numbers

  pub each_rests : All (IsClientOf s) passes → All (λ (p : WorkPassView). IsWorkerOf s (who_of p)) works → IsAtRest lock.id keeper →
      All (IsAtRest lock.id) all
  each_rests ours theirs rests =
      all_rest lock.id lock.fixed.clients workers passes works keeper all seats
      (All-weaker (IsClientOf s) (λ (p : PassView). p.lock ≡ lock.id) (λ p h. h.lock ∙ ap (λ (l : LockModel FixedPart). l.id) lock_is) passes ours)
      (All-weaker (λ (p : WorkPassView). IsWorkerOf s (who_of p)) (λ (p : WorkPassView). p.lock ≡ lock.id)
      (λ p h. h.0 ∙ ap (λ (l : LockModel FixedPart). l.id) lock_is) works theirs)
      rests

  pub each_number : AreAllClients s.lock.fixed.clients passes → AreAllWorkers s.lock.fixed.clients s.workers works →
      keeper.number ≡ lock.fixed.clients + workers → lock.seats ≡ lock.fixed.clients + workers + 1 → (n : ℕ) → n < lock.seats →
      Contains (map (λ (seat : SeatModel Line). seat.number) all) n
  each_number all_clients all_workers last count n below =
      complete lock.id lock.fixed.clients workers passes works keeper all seats
      (subst (λ c. AreAllClients c passes) clients_are all_clients)
      (subst (λ (x : SessionView). AreAllWorkers x.lock.fixed.clients x.workers works) (sym view) all_workers)
      last n (subst (λ c. n < c) count below)

  -- the value behind the lock, and its board
  module _ (v : SharedView) (fixed : fixed_part v ≡ lock.fixed) (agree : All (AgreesWith maker_of (lines v)) all) (w : BoardView)
      (out : (w ≡ v.board) × (v.halted ≡ false) × HasDrivenLog w) where
    driven : HasDrivenLog v.board
    driven = subst HasDrivenLog out.0 out.2

    agrees : (seat : SeatModel Line) → Contains all seat → AgreesWith maker_of (lines v) seat
    agrees seat among = All-contains (AgreesWith maker_of (lines v)) all seat agree among

    seat_of : (p : PassView) → Contains passes p → HasSeat IsSeatOf all p
    seat_of = client_has_seat lock.id lock.fixed.clients workers passes works keeper all seats

    seat_of_worker : (p : WorkPassView) → Contains works p → HasSeat IsSeatOfWorker all p
    seat_of_worker = worker_has_seat lock.id lock.fixed.clients workers passes works keeper all seats

    board_clients : v.board.session.clients ≡ s.lock.fixed.clients
    board_clients = ap (λ (f : FixedPart). f.clients) fixed ∙ sym clients_are

    -- no offer is pending
    pub none_is_pending : AreAllClients s.lock.fixed.clients passes → (state w).pending ≡ []
    none_is_pending all_clients = ap (λ (b : BoardView). (state b).pending) out.0 ∙ none_pending v driven by_number
      where
        by_number : (k : ℕ) → 1 ≤ k → k ≤ v.board.session.clients → HasItsAnswers k (lines v)
        by_number k least most =
            let p = from_mapped (λ (p : PassView). p.client) passes k (all_clients k least (subst (λ c. k ≤ c) board_clients most)) in
            let h = seat_of p.0 p.1 in
            subst (λ c. HasItsAnswers c (lines v)) p.2 (has_its_answers h.0 p.0.client v h.2.idle (agrees h.0 h.1) out.1)

    seen_of : (p : PassView) → Contains passes p → Begins p.seen (lines v)
    seen_of p among = let h = seat_of p among in subst (λ l. Begins l (lines v)) h.2.seen (agrees h.0 h.1).0

    seen_of_worker : (p : WorkPassView) → Contains works p → Begins p.seen (lines v)
    seen_of_worker p among = let h = seat_of_worker p among in subst (λ l. Begins l (lines v)) h.2.seen (agrees h.0 h.1).0

    -- no turn met want of memory
    never_halted : (seen : List Line) → Begins seen (lines v) → HasHalted seen → ⊥
    never_halted seen begins halted = isnt_halted v out.1 (stays_halted seen (lines v) begins halted)

    pub clients_running : All (λ (p : PassView). HasHalted p.seen → ⊥) passes
    clients_running = each_of (λ (p : PassView). HasHalted p.seen → ⊥) passes (λ p among. never_halted p.seen (seen_of p among))

    pub workers_running : All (λ (p : WorkPassView). HasHalted p.seen → ⊥) works
    workers_running = each_of (λ (p : WorkPassView). HasHalted p.seen → ⊥) works (λ p among. never_halted p.seen (seen_of_worker p among))

    module _ (log : List Event) (off : IsClosedOff w log) where
      off_there : IsClosedOff v.board log
      off_there = subst (λ (b : BoardView). IsClosedOff b log) out.0 off

      pub clients_begin : All (λ (p : PassView). Begins (events_in p.seen) log) passes
      clients_begin = each_of (λ (p : PassView). Begins (events_in p.seen) log) passes
          (λ p among. begins_there v driven log off_there p.seen (seen_of p among))

      pub workers_begin : All (λ (p : WorkPassView). Begins (events_in p.seen) log) works
      workers_begin = each_of (λ (p : WorkPassView). Begins (events_in p.seen) log) works
          (λ p among. begins_there v driven log off_there p.seen (seen_of_worker p among))

      pub own_entries : All (IsClientOf s) passes → All (HasItsEntries log) passes
      own_entries ours = each_of (HasItsEntries log) passes (λ p among.
          let h = seat_of p among in
          let our = All-contains (IsClientOf s) passes p ours among in
          has_its_entries v driven log off_there p h.0 h.2 (agrees h.0 h.1) our.first
          (subst (λ c. p.client ≤ c) (sym board_clients) our.last))

    -- of the session's specification, settings and clients
    pub whole_session : (log : List Event) (ending : Ending) → IsWholeSession (program w) w.settings w.session.clients log ending →
        IsWholeSession (program_of s.lock.fixed.checked) s.lock.fixed.settings s.lock.fixed.clients log ending
    whole_session log ending h =
        subst (λ (f : FixedPart). IsWholeSession (program_of f.checked) f.settings f.clients log ending)
        (fixed ∙ ap (λ (l : LockModel FixedPart). l.fixed) (sym lock_is))
        (subst (λ (b : BoardView). IsWholeSession (program b) b.settings b.session.clients log ending) out.0 h)
