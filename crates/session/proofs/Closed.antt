-- Sessions that are closed.
use Rattle.std.proofs.Common.{ℕ, suc, ◌+◌, ◌-◌, ◌≤◌, ◌≡◌, ◌∙◌, ◌⊎◌, inl, inr, refl, sym, ap, subst, arith}
use Rattle.std.proofs.Common.{List, [], ◌∷◌, ◌++◌, map, filter, append_assoc, append-nil}
use Rattle.std.proofs.Common.{Contains, Bool, true, false, cond, nat_eq, None, Some}
use Rattle.std.proofs.lemmas.Bool.{eq-eqb, eqb-true, true≢false}
use Rattle.std.specs.List.Sorted.{IsStrictlyIncreasing}
use Rattle.std.proofs.lemmas.List.Elements.{filter-append, Contains-push_cases}
use Rattle.std.proofs.lemmas.List.Kept.{AllPairs-from_increasing}
use Rattle.spec_core.specs.Code.{Program}
use Rattle.spec_core.specs.Lists.{Each}
use Rattle.spec_core.proofs.Members.{contains_first, contains_later, contains_none}
use Rattle.turn_lock.specs.Entries.{is_named, made_by, Begins}
use Rattle.turn_lock.specs.Seats.{AgreesWith, SeatModel}
use Rattle.rule_model.specs.Events.{Event, event_of, pended, acted, replied, stalled, left}
use Rattle.rule_model.specs.Legal.{IsDerivation, IsPossible}
use Rattle.rule_model.specs.States.{PendingOffer, State, start_state, without_taken}
use Rattle.log_states.specs.Clients.{numbers_from}
use Rattle.session_closing.proofs.Members.{in_cases}
use Rattle.session_closing.proofs.Tests.{by_cases, on_either}
use Rattle.board_core.proofs.Members.{in_filtered}
use Rattle.board_core.specs.Views.{events, program, state}
use Rattle.session_laws.specs.Answers.{offers_by}
use Rattle.session_laws.specs.Logs.{IsOfClient}
use Rattle.session_closing.proofs.Driven.{driven_derives}
use Rattle.session_closing.specs.Closing.{IsClosedOff}
use Rattle.session_board.specs.declared.line.Line.{Line}
use Rattle.session_board.specs.declared.line.Line.TheVariants.{Happened, Halted}
use Rattle.session_board.specs.Answers.{HasItsAnswers}
use Rattle.session_board.specs.Lines.{events_in, maker_of, seat_for}
use Rattle.session_board.specs.Shared.{SharedView, HasDrivenLog, lines}
use Rattle.session_board.proofs.Answering.{answered_not_pending}
use Rattle.session_board.proofs.Leaving.{is_number, not_open_has_left, open_hasnt_left}
use Rattle.session_board.proofs.Lists.{events_behind, events_of_lines}
use Rattle.session.specs.Closing.{HasItsEntries, IsSeatOf, events_by}
use Rattle.session.specs.Passes.{PassView, HasLeft}
use Rattle.session.proofs.Owning.{left_is_own, own_is_there}

-- entries that the seat of a number makes

abbrev seat_events : ℕ → List Event → List Event
seat_events n log = filter (λ event. is_named n (seat_for event)) log

made_events : (n : ℕ) (xs : List Line) → seat_events n (events_in xs) ≡ events_in (made_by maker_of n xs)
made_events n [] = refl
made_events n (Halted ∷ xs) = made_events n xs
made_events n (Happened entry ∷ xs) = by_test (is_named n (seat_for (event_of entry))) (made_events n xs)
  where
    by_test : (b : Bool) → seat_events n (events_in xs) ≡ events_in (made_by maker_of n xs) →
        cond b (event_of entry ∷ seat_events n (events_in xs)) (seat_events n (events_in xs))
        ≡ events_in (cond b (Happened entry ∷ made_by maker_of n xs) (made_by maker_of n xs))
    by_test true h = ap (λ l. event_of entry ∷ l) h
    by_test false h = h

seat_events_behind : (n : ℕ) (xs ys : List Event) → seat_events n (xs ++ ys) ≡ seat_events n xs ++ seat_events n ys
seat_events_behind n xs ys = filter-append (λ event. is_named n (seat_for event)) xs ys

named_by_none : (n : ℕ) (event : Event) → (IsOfClient event → ⊥) → is_named n (seat_for event) ≡ false
named_by_none n (pended client number offer ask) h = absurd (h tt)
named_by_none n (acted action d by) h = refl
named_by_none n (replied client number answer) h = refl
named_by_none n (stalled names) h = refl
named_by_none n (left client) h = absurd (h tt)

none_of_seat : (n : ℕ) (xs : List Event) → Each (λ event. IsOfClient event → ⊥) xs → seat_events n xs ≡ []
none_of_seat n [] h = refl
none_of_seat n (x ∷ xs) h =
    ap (λ b. cond b (x ∷ seat_events n xs) (seat_events n xs)) (named_by_none n x h.0) ∙ none_of_seat n xs h.1

-- of clients that leave, whose numbers rise, one at most is the seat's

leaves_none : (n : ℕ) (ks : List ℕ) → ((k : ℕ) → Contains ks k → 1 ≤ k) → (Contains ks (n + 1) → ⊥) → seat_events n (map left ks) ≡ []
leaves_none n [] least out = refl
leaves_none n (k ∷ ks) least out =
    by_cases (nat_eq n (k - 1))
    (λ e.
    let same = eqb-true n (k - 1) e in
    let first = least k (contains_first k ks) in
    let is : k ≡ n + 1 = omega (arith, same, first) in
    absurd (out (subst (λ z. Contains (k ∷ ks) z) is (contains_first k ks))))
    (λ e.
    ap (λ b. cond b (left k ∷ seat_events n (map left ks)) (seat_events n (map left ks))) e
    ∙ leaves_none n ks (λ j among. least j (contains_later k j ks among)) (λ among. out (contains_later k (n + 1) ks among)))

-- the first of numbers that rise isn't among the later ones
not_again : (k : ℕ) (ks : List ℕ) → IsStrictlyIncreasing (k ∷ ks) → Contains ks k → ⊥
not_again k ks rise (i, below, at) =
    let l = AllPairs-from_increasing (k ∷ ks) rise 0 (suc i) k (omega arith) (omega (arith, below)) in
    omega (arith, l, at)

later_rise : (k : ℕ) (ks : List ℕ) → IsStrictlyIncreasing (k ∷ ks) → IsStrictlyIncreasing ks
later_rise k ks rise i below =
    let l = AllPairs-from_increasing (k ∷ ks) rise (suc i) (suc (i + 1)) 0 (omega arith) (omega (arith, below)) in l

leaves_once : (n : ℕ) (ks : List ℕ) → ((k : ℕ) → Contains ks k → 1 ≤ k) → IsStrictlyIncreasing ks →
    (Contains ks (n + 1) × (seat_events n (map left ks) ≡ left (n + 1) ∷ [])) ⊎ ((Contains ks (n + 1) → ⊥) × (seat_events n (map left ks) ≡ []))
leaves_once n [] least rise = inr (contains_none (n + 1), refl)
leaves_once n (k ∷ ks) least rise =
    by_cases (nat_eq n (k - 1))
    (λ e.
    let same = eqb-true n (k - 1) e in
    let first = least k (contains_first k ks) in
    let is : k ≡ n + 1 = omega (arith, same, first) in
    inl (
      subst (λ z. Contains (k ∷ ks) z) is (contains_first k ks),
      ap (λ b. cond b (left k ∷ seat_events n (map left ks)) (seat_events n (map left ks))) e
          ∙ ap (λ l. left k ∷ l) (leaves_none n ks (λ j among. least j (contains_later k j ks among))
          (λ among. not_again k ks rise (subst (λ z. Contains ks z) (sym is) among)))
          ∙ ap (λ z. left z ∷ []) is,
    ))
    (λ e.
    let kept = ap (λ b. cond b (left k ∷ seat_events n (map left ks)) (seat_events n (map left ks))) e in
    on_either (leaves_once n ks (λ j among. least j (contains_later k j ks among)) (later_rise k ks rise))
    (λ h. inl (contains_later k (n + 1) ks h.0, kept ∙ h.1))
    (λ h. inr (
      λ among. on_either (in_cases k (n + 1) ks among)
          (λ is. absurd (true≢false (sym (eq-eqb n (k - 1) (omega (arith, is))) ∙ e)))
          h.0,
      kept ∙ h.1,
    )))

-- offers are pending of clients that were open at the beginning
module _ (program : Program) (P : ℕ → Type 0) where
  record AreOf (s : State) : Type 0 where
    pub pending : (p : PendingOffer) → Contains s.pending p → P p.client
    pub clients : (k : ℕ) → Contains s.open_clients k → P k

  of_taken : (s : State) (by : _) (p : PendingOffer) → Contains (without_taken by s.pending) p → Contains s.pending p
  of_taken s None p h = h
  of_taken s (Some name) p h = in_filtered _ s.pending p h

  after_entry : (s t : State) (e : Event) → IsPossible program s e t → AreOf s → AreOf t
  after_entry s t (pended client number offer ask) h are =
      subst AreOf (sym h.4) (record {
        pending =
            λ p among.
            on_either (Contains-push_cases s.pending _ p among) (are.pending p)
            (λ is. subst (λ (z : PendingOffer). P z.client) is (are.clients client h.0));
        clients = are.clients;
      })
  after_entry s t (acted action d by) h are =
      subst AreOf (sym h.3) (record { pending = λ p among. are.pending p (of_taken s by p among); clients = are.clients })
  after_entry s t (replied client number answer) h are =
      subst AreOf (sym h.2) (record { pending = λ p among. are.pending p (in_filtered _ s.pending p among); clients = are.clients })
  after_entry s t (stalled names) h are =
      subst AreOf (sym h.2) (record { pending = λ p among. absurd (contains_none p among); clients = are.clients })
  after_entry s t (left client) h are =
      subst AreOf (sym h.2) (record { pending = are.pending; clients = λ k among. are.clients k (in_filtered _ s.open_clients k among) })

  after_log : (log : List Event) (s t : State) → IsDerivation program log s t → AreOf s → AreOf t
  after_log [] s t h are = subst AreOf (sym h) are
  after_log (e ∷ log) s t (next, possible, h) are = after_log log next t h (after_entry s next e possible are)

-- a client of the session
abbrev IsNumber : ℕ → ℕ → Type 0
IsNumber clients k = (1 ≤ k) × (k ≤ clients)

module _ (v : SharedView) (driven : HasDrivenLog v.board) where
  abbrev clients : ℕ
  clients = v.board.session.clients

  log_is : events_in (lines v) ≡ events v.board
  log_is = events_of_lines v.board.session.entries v.halted

  of_session : AreOf (program v.board) (IsNumber clients) (state v.board)
  of_session =
      let start = start_state driven.behaviour (numbers_from 1 clients) in
      after_log (program v.board) (IsNumber clients) (events v.board) start (state v.board)
      (driven_derives (program v.board) v.board.settings start v.board.stop (events v.board) (state v.board) driven.driven)
      (record {
        pending = λ p among. absurd (contains_none p among);
        clients = λ k among. let m = is_number 1 clients k among in let below = m.1 in (m.0, omega (arith, below));
      })

  -- where each client has its answers, no offer is pending
  pub none_pending : ((k : ℕ) → 1 ≤ k → k ≤ clients → HasItsAnswers k (lines v)) → (state v.board).pending ≡ []
  none_pending answers = by_list (state v.board).pending refl
    where
      by_list : (ps : List PendingOffer) → (state v.board).pending ≡ ps → ps ≡ []
      by_list [] e = refl
      by_list (p ∷ ps) e =
          let among : Contains (state v.board).pending p = subst (λ l. Contains l p) (sym e) (contains_first p ps) in
          let of = of_session.pending p among in
          let h = answers p.client of.0 of.1 in
          absurd
          (answered_not_pending (program v.board) v.board.settings clients v.board.stop (events v.board) (state v.board) p.client
          (events_in h.known) (events_in h.begins.0) driven
          (sym log_is ∙ ap events_in h.begins.1 ∙ events_behind h.known h.begins.0)
          (ap (offers_by p.client) (sym log_is) ∙ h.all) h.answered
          (p.number, record { waits = p; among = among; client = refl; number = refl; holds = tt }))

  -- the log that goes on from what happened
  module _ (log : List Event) (off : IsClosedOff v.board log) where
    pub begins_there : (seen : List Line) → Begins seen (lines v) → Begins (events_in seen) log
    begins_there seen h = (
      events_in h.0 ++ map left (state v.board).open_clients ++ off.rest,
      off.goes_on
          ∙ ap (λ l. l ++ map left (state v.board).open_clients ++ off.rest) (sym log_is ∙ ap events_in h.1 ∙ events_behind seen h.0)
          ∙ ap (λ l. l ++ off.rest) (append_assoc (events_in seen) (events_in h.0) (map left (state v.board).open_clients))
          ∙ append_assoc (events_in seen) (events_in h.0 ++ map left (state v.board).open_clients) off.rest,
    )

    module _ (p : PassView) (seat : SeatModel Line) (is : IsSeatOf p seat) (agrees : AgreesWith maker_of (lines v) seat)
        (least : 1 ≤ p.client) (most : p.client ≤ clients) where
      numbered : seat.number ≡ p.client - 1
      numbered = let e = is.idle.numbered in omega (arith, e)

      itself : p.client - 1 + 1 ≡ p.client
      itself = omega (arith, least)

      own_lines : made_by maker_of (p.client - 1) (lines v) ≡ p.own
      own_lines = ap (λ k. made_by maker_of k (lines v)) (sym numbered) ∙ agrees.1 ∙ is.own

      own_events : seat_events (p.client - 1) (events v.board) ≡ events_in p.own
      own_events = ap (seat_events (p.client - 1)) (sym log_is) ∙ made_events (p.client - 1) (lines v) ∙ ap events_in own_lines

      has_left : Contains (events v.board) (left p.client) → HasLeft p
      has_left h =
          subst (λ l. Contains (events_in l) (left p.client)) own_lines
          (left_is_own (p.client - 1) p.client itself (lines v) (subst (λ l. Contains l (left p.client)) (sym log_is) h))

      left_there : HasLeft p → Contains (events v.board) (left p.client)
      left_there h =
          subst (λ l. Contains l (left p.client)) log_is
          (own_is_there (p.client - 1) (lines v) (left p.client)
          (subst (λ l. Contains (events_in l) (left p.client)) (sym own_lines) h))

      abbrev open_now : List ℕ
      open_now = (state v.board).open_clients

      all_entries : events_by p.client log ≡ events_in p.own ++ seat_events (p.client - 1) (map left open_now)
      all_entries =
          ap (seat_events (p.client - 1)) off.goes_on
          ∙ seat_events_behind (p.client - 1) (events v.board ++ map left open_now) off.rest
          ∙ ap (λ l. seat_events (p.client - 1) (events v.board ++ map left open_now) ++ l) (none_of_seat (p.client - 1) off.rest off.own)
          ∙ append-nil (seat_events (p.client - 1) (events v.board ++ map left open_now))
          ∙ seat_events_behind (p.client - 1) (events v.board) (map left open_now)
          ∙ ap (λ l. l ++ seat_events (p.client - 1) (map left open_now)) own_events

      gone : Contains open_now p.client → HasLeft p → ⊥
      gone among h =
          open_hasnt_left (program v.board) v.board.settings clients v.board.stop (events v.board) (state v.board) driven p.client among
          (left_there h)

      went : (Contains open_now p.client → ⊥) → HasLeft p
      went out =
          has_left
          (not_open_has_left (program v.board) v.board.settings clients v.board.stop (events v.board) (state v.board) driven p.client least most
          out)

      pub has_its_entries : HasItsEntries log p
      has_its_entries =
          on_either (leaves_once (p.client - 1) open_now (λ k among. (of_session.clients k among).0) off.ascending)
          (λ h.
          let among = subst (λ k. Contains open_now k) itself h.0 in
          record {
            had_left = λ left_it. absurd (gone among left_it);
            leaves =
                λ stays. all_entries ∙ ap (λ l. events_in p.own ++ l) (h.1 ∙ ap (λ k. left k ∷ []) itself);
          })
          (λ h.
          let out = λ (among : Contains open_now p.client). h.0 (subst (λ k. Contains open_now k) (sym itself) among) in
          record {
            had_left = λ left_it. all_entries ∙ ap (λ l. events_in p.own ++ l) h.1 ∙ append-nil (events_in p.own);
            leaves = λ stays. absurd (stays (went out));
          })
