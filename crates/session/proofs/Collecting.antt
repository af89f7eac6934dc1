-- Seats that are handed back.
use Rattle.std.proofs.Common.{ℕ, ◌+◌, ◌≤◌, ◌<◌, ◌≡◌, ◌∙◌, refl, sym, ap, subst, arith, List, [], ◌∷◌, ◌++◌, map, append_assoc}
use Rattle.std.proofs.Common.{Contains, ◌⊎◌, inl, inr}
use Rattle.std.specs.Prelude.{All}
use Rattle.std.specs.List.{AllByRecursion}
use Rattle.std.proofs.lemmas.List.Elements.{All-contains, All-from_recursion, Contains-append_left}
use Rattle.std.proofs.lemmas.List.Elements.{Contains-append_right}
use Rattle.std.proofs.lemmas.Bool.{cases_lt}
use Rattle.spec_core.proofs.Members.{contains_first, contains_later, contains_none}
use Rattle.session_closing.proofs.Members.{in_cases}
use Rattle.session_closing.proofs.Tests.{on_either}
use Rattle.turn_lock.specs.Seats.{IsAtRest, LockId, SeatModel}
use Rattle.session_board.specs.declared.line.Line.{Line}
use Rattle.session.specs.Closing.{AddsSeats, AreAllClients, AreAllWorkers, AreSeatsOf, HasSeat, IsSeatOf, IsSeatOfOne, IsSeatOfWorker}
use Rattle.session.specs.Passes.{PassView, WorkPassView}

abbrev Seat : Type 0
Seat = SeatModel Line

each_weaker : {X : Type 0} (A B : X → Type 0) → ((x : X) → A x → B x) → (xs : List X) → AllByRecursion A xs → AllByRecursion B xs
each_weaker A B f [] h = tt
each_weaker A B f (x ∷ xs) h = (f x h.0, each_weaker A B f xs h.1)

each_append : {X : Type 0} (A : X → Type 0) (xs ys : List X) → AllByRecursion A xs → AllByRecursion A ys → AllByRecursion A (xs ++ ys)
each_append A [] ys h k = k
each_append A (x ∷ xs) ys h k = (h.0, each_append A xs ys h.1 k)

module _ {P : Type 0} (IsOf : P → Seat → Type 0) where
  -- one more seat behind them, of one more pass
  pub adds_one : (done : List P) (old now new : List Seat) (p : P) (seat : Seat) → AddsSeats IsOf done old now → new ≡ now ++ seat ∷ [] →
      IsOf p seat → AddsSeats IsOf (p ∷ done) old new
  adds_one done old now new p seat h grown is =
      let all = h.more ++ seat ∷ [] in
      record {
        more = all;
        behind = grown ∙ ap (λ l. l ++ seat ∷ []) h.behind ∙ append_assoc old h.more (seat ∷ []);
        each = (
          (seat, Contains-append_right h.more (seat ∷ []) seat (contains_first seat []), is),
          each_weaker (HasSeat IsOf h.more) (HasSeat IsOf all)
              (λ q k. (k.0, Contains-append_left h.more (seat ∷ []) k.0 k.1, k.2)) done h.each,
        );
        only =
            each_append (IsSeatOfOne IsOf (p ∷ done)) h.more (seat ∷ [])
            (each_weaker (IsSeatOfOne IsOf done) (IsSeatOfOne IsOf (p ∷ done)) (λ s k. (k.0, contains_later p k.0 done k.1, k.2)) h.more h.only)
            ((p, contains_first p done, is), tt);
      }

  pub one_taken : (all before rest done : List P) (p : P) → all ≡ before ++ done → before ≡ rest ++ p ∷ [] → all ≡ rest ++ p ∷ done
  one_taken all before rest done p parts taken = parts ∙ ap (λ l. l ++ done) taken ∙ append_assoc rest (p ∷ []) done

-- an element by what a function makes of it
pub from_mapped : {X : Type 0} (f : X → ℕ) (xs : List X) (n : ℕ) → Contains (map f xs) n → (x : X) × Contains xs x × (f x ≡ n)
from_mapped f [] n h = absurd (contains_none n h)
from_mapped f (x ∷ xs) n h =
    on_either (in_cases (f x) n (map f xs) h)
    (λ e. (x, contains_first x xs, e))
    (λ later. let r = from_mapped f xs n later in (r.0, contains_later x r.0 xs r.1, r.2))

to_mapped : {X : Type 0} (f : X → ℕ) (xs : List X) (x : X) → Contains xs x → Contains (map f xs) (f x)
to_mapped f [] x h = absurd (contains_none x h)
to_mapped f (y ∷ ys) x h =
    on_either (in_cases y x ys h)
    (λ e. subst (λ z. Contains (f y ∷ map f ys) (f z)) e (contains_first (f y) (map f ys)))
    (λ later. contains_later (f y) (f x) (map f ys) (to_mapped f ys x later))

in_each : {X : Type 0} (A : X → Type 0) (xs : List X) (x : X) → AllByRecursion A xs → Contains xs x → A x
in_each A xs x h among = All-contains A xs x (All-from_recursion A xs h) among

-- the seats of clients, and of workers, and one more, behind them
pub all_seats : (passes : List PassView) (works : List WorkPassView) (keeper : Seat) (none first second all : List Seat) → none ≡ [] →
    AddsSeats IsSeatOf passes none first → AddsSeats IsSeatOfWorker works first second → all ≡ second ++ keeper ∷ [] →
    AreSeatsOf passes works keeper all
all_seats passes works keeper none first second all empty a b grown =
    let is : all ≡ (a.more ++ b.more) ++ keeper ∷ [] =
    grown ∙ ap (λ l. l ++ keeper ∷ []) (b.behind ∙ ap (λ l. l ++ b.more) (a.behind ∙ ap (λ l. l ++ a.more) empty)) in
    subst (AreSeatsOf passes works keeper) (sym is) (record {
      of_clients =
          each_weaker (HasSeat IsSeatOf a.more) (HasSeat IsSeatOf ((a.more ++ b.more) ++ keeper ∷ []))
          (λ p h. (h.0, Contains-append_left (a.more ++ b.more) (keeper ∷ []) h.0 (Contains-append_left a.more b.more h.0 h.1), h.2))
          passes a.each;
      of_workers =
          each_weaker (HasSeat IsSeatOfWorker b.more) (HasSeat IsSeatOfWorker ((a.more ++ b.more) ++ keeper ∷ []))
          (λ p h. (h.0, Contains-append_left (a.more ++ b.more) (keeper ∷ []) h.0 (Contains-append_right a.more b.more h.0 h.1), h.2))
          works b.each;
      kept = Contains-append_right (a.more ++ b.more) (keeper ∷ []) keeper (contains_first keeper []);
      only =
          each_append IsOne (a.more ++ b.more) (keeper ∷ [])
          (each_append IsOne a.more b.more
          (each_weaker (IsSeatOfOne IsSeatOf passes) IsOne (λ seat h. inl h) a.more a.only)
          (each_weaker (IsSeatOfOne IsSeatOfWorker works) IsOne (λ seat h. inr (inl h)) b.more b.only))
          (inr (inr refl), tt);
    })
  where
    IsOne : Seat → Type 0
    IsOne seat = IsSeatOfOne IsSeatOf passes seat ⊎ IsSeatOfOne IsSeatOfWorker works seat ⊎ (seat ≡ keeper)

module _ (id : LockId) (clients workers : ℕ) (passes : List PassView) (works : List WorkPassView) (keeper : Seat) (all : List Seat)
    (h : AreSeatsOf passes works keeper all) where
  pub client_has_seat : (p : PassView) → Contains passes p → HasSeat IsSeatOf all p
  client_has_seat p among = in_each (HasSeat IsSeatOf all) passes p h.of_clients among

  pub worker_has_seat : (p : WorkPassView) → Contains works p → HasSeat IsSeatOfWorker all p
  worker_has_seat p among = in_each (HasSeat IsSeatOfWorker all) works p h.of_workers among

  -- each rests at the lock
  pub all_rest : All (λ (p : PassView). p.lock ≡ id) passes → All (λ (p : WorkPassView). p.lock ≡ id) works → IsAtRest id keeper →
      All (IsAtRest id) all
  all_rest of_clients of_workers rests =
      All-from_recursion (IsAtRest id) all
      (each_weaker
      (λ seat. IsSeatOfOne IsSeatOf passes seat ⊎ IsSeatOfOne IsSeatOfWorker works seat ⊎ (seat ≡ keeper)) (IsAtRest id) by_case all h.only)
    where
      by_case : (seat : Seat) → IsSeatOfOne IsSeatOf passes seat ⊎ IsSeatOfOne IsSeatOfWorker works seat ⊎ (seat ≡ keeper) → IsAtRest id seat
      by_case seat (inl k) = (k.2.lock ∙ All-contains (λ (p : PassView). p.lock ≡ id) passes k.0 of_clients k.1, k.2.rests)
      by_case seat (inr (inl k)) = (k.2.lock ∙ All-contains (λ (p : WorkPassView). p.lock ≡ id) works k.0 of_workers k.1, k.2.rests)
      by_case seat (inr (inr is)) = subst (IsAtRest id) (sym is) rests

  -- each number is that of one of them
  module _ (of_clients : AreAllClients clients passes) (of_workers : AreAllWorkers clients workers works)
      (last : keeper.number ≡ clients + workers) where
    has_number : (seat : Seat) (n : ℕ) → Contains all seat → seat.number ≡ n → Contains (map (λ (s : Seat). s.number) all) n
    has_number seat n among e =
        subst (λ k. Contains (map (λ (s : Seat). s.number) all) k) e (to_mapped (λ (s : Seat). s.number) all seat among)

    number_of_client : (n : ℕ) → n < clients → Contains (map (λ (s : Seat). s.number) all) n
    number_of_client n below =
        let p = from_mapped (λ (p : PassView). p.client) passes (n + 1) (of_clients (n + 1) (omega arith) (omega (arith, below))) in
        let k = client_has_seat p.0 p.1 in
        let numbered = k.2.idle.numbered in
        let same = p.2 in
        has_number k.0 n k.1 (omega (arith, numbered, same))

    number_of_worker : (n : ℕ) → clients ≤ n → n < clients + workers → Contains (map (λ (s : Seat). s.number) all) n
    number_of_worker n least below =
        let p = from_mapped (λ (p : WorkPassView). p.number) works n (of_workers n least below) in
        let k = worker_has_seat p.0 p.1 in
        has_number k.0 n k.1 (k.2.number ∙ p.2)

    pub complete : (n : ℕ) → n < clients + workers + 1 → Contains (map (λ (s : Seat). s.number) all) n
    complete n most = on_either (cases_lt n clients) (number_of_client n) (λ least. on_either (cases_lt n (clients + workers))
        (number_of_worker n least)
        (λ at. has_number keeper n h.kept (omega (arith, last, at, most))))
