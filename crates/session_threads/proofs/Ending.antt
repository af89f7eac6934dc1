-- How the rows of a session end.
use Rattle.std.proofs.Common.{ℕ, zero, suc, ◌+◌, ◌-◌, ◌<◌, ◌≤◌, ◌≡◌, ◌∙◌, refl, sym, ap, subst, arith, List, [], ◌∷◌, map, length}
use Rattle.std.proofs.Common.{get_or, Contains, Bool, true, false, nat_eq, cond, Vec}
use Rattle.std.proofs.lemmas.List.{length-map}
use Rattle.std.specs.declared.alloc.Global.{Global}
use Rattle.std.specs.List.{range_with_len}
use Rattle.std.proofs.lemmas.Bool.{cases_order, eq-eqb, ne_eqb, true≢false}
use Rattle.spec_core.specs.Lists.{Each}
use Rattle.spec_core.proofs.Members.{contains_first, contains_later}
use Rattle.turn_lock.specs.Seats.{LockId}
use Rattle.rule_model.specs.Events.{Event, pended, acted, replied, stalled, left}
use Rattle.rule_model.specs.States.{PendingOffer}
use Rattle.rule_model.specs.Wishes.{Wish}
use Rattle.rule_model.specs.WishViews.{wish_of}
use Rattle.log_states.proofs.Tests.{by_cases, on_either}
use Rattle.session_laws.specs.Answers.{AnswersClient, offers_by}
use Rattle.session_laws.specs.Wishes.{wish_in, wishes_by}
use Rattle.session.specs.Closing.{HasItsEntries, events_by}
use Rattle.session.specs.Passes.{PassView, WorkPassView, HasLeft}
use Rattle.session.specs.Sessions.{SessionView, Who, IsClientOf, IsWorkerOf, who_of}
use Rattle.session.specs.Starting.{new_pass, new_work_pass}
use Rattle.session_threads.specs.declared.rows.Row.{Row}
use Rattle.session_threads.specs.declared.rows.Row.TheVariants.{Client, Worker}
use Rattle.session_threads.specs.Rows.{client_passes, worker_passes, worker_row, wishes_made, AreClientRows, AreServed, FitSession, IsDone, IsReadyRow}
use Rattle.rule_model.specs.declared.wish.ClientWish.{ClientWish}
use Rattle.session_threads.specs.Runs.{all_wishes_of, AnswersClients}

-- rows that are ready

pub workers_ready : (s : SessionView) (k m : ℕ) →
    Each (IsReadyRow s) (map worker_row (map (new_work_pass s.lock.id s.lock.fixed.clients) (range_with_len k m)))
workers_ready s k zero = tt
workers_ready s k (suc m) = ((refl, refl), workers_ready s (k + 1) m)

pub rows_ready : (s : SessionView) (first : ℕ) (clients : List (List Wish)) (behind rows : List Row) →
    AreClientRows (map (new_pass s.lock.id) (range_with_len first (length clients))) clients behind rows →
    first + length clients ≤ s.lock.fixed.clients → Each (FitSession s) clients → Each (IsReadyRow s) behind → Each (IsReadyRow s) rows
rows_ready s first [] behind rows is few fit ready = subst (Each (IsReadyRow s)) (sym is) ready
rows_ready s first (wishes ∷ clients) behind [] is few fit ready = absurd is
rows_ready s first (wishes ∷ clients) behind (Worker q b ∷ rows) is few fit ready = absurd is
rows_ready s first (wishes ∷ clients) behind (Client q v b ∷ rows) is few fit ready = (
  (
    subst (IsClientOf s) (sym is.0) (record { lock = refl; first = omega arith; last = omega (arith, few) }),
    ap (λ (p : PassView). p.own) is.0,
    subst (FitSession s) (sym is.1) fit.0,
  ),
  rows_ready s (first + 1) clients behind rows is.2 (omega (arith, few)) fit.1 ready,
)

-- passes at the end

-- the clients from this number on have left, and have made these wishes
abbrev pub EndsAs : LockId → ℕ → List (List Wish) → List PassView → Type 0
EndsAs id first [] [] = Unit {0}
EndsAs id first (wishes ∷ clients) (p ∷ passes) =
    (p.lock ≡ id) × (p.client ≡ first) × HasLeft p × (wishes_made p ≡ wishes) × EndsAs id (first + 1) clients passes
EndsAs id first _ _ = ⊥

-- so many workers, from this number on
abbrev pub AreWorkers : LockId → ℕ → ℕ → ℕ → List WorkPassView → Type 0
AreWorkers id clients k zero [] = Unit {0}
AreWorkers id clients k (suc m) (p ∷ passes) =
    (who_of p ≡ record { lock = id; number = k; clients = clients }) × AreWorkers id clients (k + 1) m passes
AreWorkers id clients k _ _ = ⊥

no_clients : (id : LockId) (k : ℕ) (workers : List WorkPassView) (news : List Row) → AreServed (map worker_row workers) news →
    EndsAs id k [] (client_passes news)
no_clients id k [] [] h = tt
no_clients id k [] (new ∷ news) h = absurd h
no_clients id k (w ∷ workers) [] h = absurd h
no_clients id k (w ∷ workers) (Client q v b ∷ news) h = absurd h.0
no_clients id k (w ∷ workers) (Worker q b ∷ news) h = no_clients id k workers news h.2

pub clients_end : (id : LockId) (first : ℕ) (clients : List (List Wish)) (workers : List WorkPassView) (rows news : List Row) →
    AreClientRows (map (new_pass id) (range_with_len first (length clients))) clients (map worker_row workers) rows → AreServed rows news →
    Each IsDone news → EndsAs id (first + 1) clients (client_passes news)
clients_end id first [] workers rows news is h done = no_clients id (first + 1) workers news (subst (λ l. AreServed l news) is h)
clients_end id first (wishes ∷ clients) workers [] news is h done = absurd is
clients_end id first (wishes ∷ clients) workers (Worker p b ∷ rows) news is h done = absurd is
clients_end id first (wishes ∷ clients) workers (Client p v b ∷ rows) [] is h done = absurd h
clients_end id first (wishes ∷ clients) workers (Client p v b ∷ rows) (Worker q d ∷ news) is h done = absurd h.0
clients_end id first (wishes ∷ clients) workers (Client p v b ∷ rows) (Client q w d ∷ news) is h done =
    let served = h.1 done.0 in (
      h.0.0.0 ∙ ap (λ (z : PassView). z.lock) is.0,
      h.0.0.1 ∙ ap (λ (z : PassView). z.client) is.0,
      served.0,
      served.1 ∙ ap (λ z. map wish_of z.now) h.0.1 ∙ is.1,
      clients_end id (first + 1) clients workers rows news is.2 h.2 done.1,
    )

only_workers : (id : LockId) (n k m : ℕ) (news : List Row) →
    AreServed (map worker_row (map (new_work_pass id n) (range_with_len k m))) news → AreWorkers id n k m (worker_passes news)
only_workers id n k zero [] h = tt
only_workers id n k zero (new ∷ news) h = absurd h
only_workers id n k (suc m) [] h = absurd h
only_workers id n k (suc m) (Client q v b ∷ news) h = absurd h.0
only_workers id n k (suc m) (Worker q b ∷ news) h = (h.0, only_workers id n (k + 1) m news h.2)

pub workers_end : (id : LockId) (n k m : ℕ) (passes : List PassView) (clients : List (List Wish)) (rows news : List Row) →
    AreClientRows passes clients (map worker_row (map (new_work_pass id n) (range_with_len k m))) rows → AreServed rows news →
    AreWorkers id n k m (worker_passes news)
workers_end id n k m [] [] rows news is h = only_workers id n k m news (subst (λ l. AreServed l news) is h)
workers_end id n k m [] (wishes ∷ clients) rows news is h = absurd is
workers_end id n k m (p ∷ passes) [] rows news is h = absurd is
workers_end id n k m (p ∷ passes) (wishes ∷ clients) [] news is h = absurd is
workers_end id n k m (p ∷ passes) (wishes ∷ clients) (Worker o b ∷ rows) news is h = absurd is
workers_end id n k m (p ∷ passes) (wishes ∷ clients) (Client o v b ∷ rows) [] is h = absurd h
workers_end id n k m (p ∷ passes) (wishes ∷ clients) (Client o v b ∷ rows) (Worker q d ∷ news) is h = absurd h.0
workers_end id n k m (p ∷ passes) (wishes ∷ clients) (Client o v b ∷ rows) (Client q w d ∷ news) is h =
    workers_end id n k m passes clients rows news is.2 h.2

-- they are those of the session, all of them

pub clients_ours : (s : SessionView) (first : ℕ) (clients : List (List Wish)) (passes : List PassView) →
    EndsAs s.lock.id first clients passes → 1 ≤ first → first + length clients ≤ s.lock.fixed.clients + 1 → Each (IsClientOf s) passes
clients_ours s first [] [] h least most = tt
clients_ours s first [] (p ∷ passes) h least most = absurd h
clients_ours s first (wishes ∷ clients) [] h least most = absurd h
clients_ours s first (wishes ∷ clients) (p ∷ passes) h least most =
    let is = h.1 in (
      record { lock = h.0; first = omega (arith, is, least); last = omega (arith, is, most) },
      clients_ours s (first + 1) clients passes h.4 (omega arith) (omega (arith, most)),
    )

pub clients_there : (id : LockId) (first : ℕ) (clients : List (List Wish)) (passes : List PassView) → EndsAs id first clients passes →
    (k : ℕ) → first ≤ k → k < first + length clients → Contains (map (λ (p : PassView). p.client) passes) k
clients_there id first [] [] h k least most = absurd (omega (arith, least, most))
clients_there id first [] (p ∷ passes) h k least most = absurd h
clients_there id first (wishes ∷ clients) [] h k least most = absurd h
clients_there id first (wishes ∷ clients) (p ∷ passes) h k least most =
    on_either (cases_order k first)
    (λ e. subst (λ z. Contains (p.client ∷ map (λ (q : PassView). q.client) passes) z) (h.1 ∙ sym e)
    (contains_first p.client (map (λ (q : PassView). q.client) passes)))
    (λ other.
    contains_later p.client k (map (λ (q : PassView). q.client) passes)
    (clients_there id (first + 1) clients passes h.4 k
    (on_either other (λ l. absurd (omega (arith, l, least))) (λ l. omega (arith, l)))
    (omega (arith, most))))

pub workers_ours : (s : SessionView) (k m : ℕ) (passes : List WorkPassView) →
    AreWorkers s.lock.id s.lock.fixed.clients k m passes → Each (λ p. IsWorkerOf s (who_of p)) passes
workers_ours s k zero [] h = tt
workers_ours s k zero (p ∷ passes) h = absurd h
workers_ours s k (suc m) [] h = absurd h
workers_ours s k (suc m) (p ∷ passes) h =
    ((ap (λ (z : Who). z.lock) h.0, ap (λ (z : Who). z.clients) h.0), workers_ours s (k + 1) m passes h.1)

pub workers_there : (id : LockId) (n k m : ℕ) (passes : List WorkPassView) → AreWorkers id n k m passes →
    (number : ℕ) → k ≤ number → number < k + m → Contains (map (λ (p : WorkPassView). p.number) passes) number
workers_there id n k zero [] h number least most = absurd (omega (arith, least, most))
workers_there id n k zero (p ∷ passes) h number least most = absurd h
workers_there id n k (suc m) [] h number least most = absurd h
workers_there id n k (suc m) (p ∷ passes) h number least most =
    on_either (cases_order number k)
    (λ e. subst (λ z. Contains (p.number ∷ map (λ (q : WorkPassView). q.number) passes) z) (ap (λ (z : Who). z.number) h.0 ∙ sym e)
    (contains_first p.number (map (λ (q : WorkPassView). q.number) passes)))
    (λ other.
    contains_later p.number number (map (λ (q : WorkPassView). q.number) passes)
    (workers_there id n (k + 1) m passes h.1 number
    (on_either other (λ l. absurd (omega (arith, l, least))) (λ l. omega (arith, l)))
    (omega (arith, most))))

-- what a client wishes, by its own entries

its_wishes : (k : ℕ) (log : List Event) → wishes_by k log ≡ wishes_by k (events_by k log)
its_wishes k [] = refl
its_wishes k (pended client number offer ask ∷ log) =
    by_cases (nat_eq (k - 1) (client - 1))
    (λ e.
    subst (λ b. wishes_by k (event ∷ log) ≡ wishes_by k (cond b (event ∷ events_by k log) (events_by k log))) (sym e)
    (by_test (nat_eq client k) (offers_by k log) (offers_by k (events_by k log)) (its_wishes k log)))
    (λ e.
    subst (λ b. wishes_by k (event ∷ log) ≡ wishes_by k (cond b (event ∷ events_by k log) (events_by k log))) (sym e)
    (ap (λ b. map wish_in (cond b (offered ∷ offers_by k log) (offers_by k log)))
    (ne_eqb client k (λ is. absurd (true≢false (sym (eq-eqb (k - 1) (client - 1) (ap (λ z. z - 1) (sym is))) ∙ e))))
    ∙ its_wishes k log))
  where
    event : Event
    event = pended client number offer ask

    offered : PendingOffer
    offered = record { client = client; number = number; offer = offer; ask = ask }

    by_test : (b : Bool) (ps qs : List PendingOffer) → map wish_in ps ≡ map wish_in qs →
        map wish_in (cond b (offered ∷ ps) ps) ≡ map wish_in (cond b (offered ∷ qs) qs)
    by_test true ps qs h = ap (λ l. wish_in offered ∷ l) h
    by_test false ps qs h = h
its_wishes k (acted action tree by ∷ log) = its_wishes k log
its_wishes k (replied client number answer ∷ log) = its_wishes k log
its_wishes k (stalled names ∷ log) = its_wishes k log
its_wishes k (left client ∷ log) = its_wishes k log ∙ by_test (nat_eq (k - 1) (client - 1))
  where
    by_test : (b : Bool) → wishes_by k (events_by k log) ≡ wishes_by k (cond b (left client ∷ events_by k log) (events_by k log))
    by_test true = refl
    by_test false = refl

pub answers_clients : (log : List Event) → ((client : ℕ) → AnswersClient client (wishes_by client log) log) →
    (id : LockId) (first : ℕ) (clients : List (List Wish)) (passes : List PassView) → EndsAs id first clients passes →
    Each (HasItsEntries log) passes → AnswersClients first clients log
answers_clients log law id first [] passes h its = tt
answers_clients log law id first (wishes ∷ clients) [] h its = absurd h
answers_clients log law id first (wishes ∷ clients) (p ∷ passes) h its =
    let e : wishes_by p.client log ≡ wishes =
    its_wishes p.client log ∙ ap (wishes_by p.client) (its.0.had_left h.2) ∙ h.3 in (
      subst (λ k. AnswersClient k wishes log) h.1 (subst (λ l. AnswersClient p.client l log) e (law p.client)),
      answers_clients log law id (first + 1) clients passes h.4 its.1,
    )

-- a whole session of rows

-- the rows of a session that has started
abbrev pub AreBegun : SessionView → List (List Wish) → ℕ → List Row → Type 0
AreBegun s clients m rows =
    AreClientRows (map (new_pass s.lock.id) (range_with_len 0 (length clients))) clients
    (map worker_row (map (new_work_pass s.lock.id s.lock.fixed.clients) (range_with_len s.lock.fixed.clients m))) rows

pub begun : (s : SessionView) (clients : List (Vec ClientWish Global)) (m : ℕ) (passes : List PassView) (works : List WorkPassView)
    (behind rows : List Row) → s.lock.fixed.clients ≡ length clients →
    passes ≡ map (new_pass s.lock.id) (range_with_len 0 (length clients)) →
    works ≡ map (new_work_pass s.lock.id (length clients)) (range_with_len (length clients) m) → behind ≡ map worker_row works →
    AreClientRows passes (map all_wishes_of clients) behind rows → AreBegun s (map all_wishes_of clients) m rows
begun s clients m passes works behind rows count are_passes are_works is h =
    subst (λ l. AreClientRows l (map all_wishes_of clients)
    (map worker_row (map (new_work_pass s.lock.id s.lock.fixed.clients) (range_with_len s.lock.fixed.clients m))) rows)
    (are_passes ∙ ap (λ k. map (new_pass s.lock.id) (range_with_len 0 k)) (sym (length-map clients all_wishes_of)))
    (subst (λ l. AreClientRows passes (map all_wishes_of clients) l rows)
    (is ∙ ap (map worker_row) (are_works ∙ ap (λ k. map (new_work_pass s.lock.id k) (range_with_len k m)) (sym count))) h)

pub all_ready : (s : SessionView) (clients : List (Vec ClientWish Global)) (m : ℕ) (rows : List Row) → s.lock.fixed.clients ≡ length clients →
    AreBegun s (map all_wishes_of clients) m rows → Each (FitSession s) (map all_wishes_of clients) → Each (IsReadyRow s) rows
all_ready s clients m rows count h fit =
    let same = length-map clients all_wishes_of in
    rows_ready s 0 (map all_wishes_of clients) _ rows h (omega (arith, same, count)) fit (workers_ready s s.lock.fixed.clients m)

-- all have done what they were to do
pub record EndsWell (s : SessionView) (clients : List (List Wish)) (m : ℕ) (passes : List PassView) (works : List WorkPassView) :
    Type 0 where
  pub clients_are : EndsAs s.lock.id 1 clients passes
  pub workers_are : AreWorkers s.lock.id s.lock.fixed.clients s.lock.fixed.clients m works

pub ends : (s : SessionView) (clients : List (List Wish)) (m : ℕ) (rows news : List Row) (passes : List PassView) (works : List WorkPassView) →
    AreBegun s clients m rows → AreServed rows news → passes ≡ client_passes news → works ≡ worker_passes news → Each IsDone news →
    EndsWell s clients m passes works
ends s clients m rows news passes works h follows are_passes are_works done = record {
  clients_are =
      subst (EndsAs s.lock.id 1 clients) (sym are_passes)
      (clients_end s.lock.id 0 clients (map (new_work_pass s.lock.id s.lock.fixed.clients) (range_with_len s.lock.fixed.clients m)) rows news h
      follows done);
  workers_are =
      subst (AreWorkers s.lock.id s.lock.fixed.clients s.lock.fixed.clients m) (sym are_works)
      (workers_end s.lock.id s.lock.fixed.clients s.lock.fixed.clients m (map (new_pass s.lock.id) (range_with_len 0 (length clients))) clients
      rows news h follows);
}
