-- Who has left, by the log.
use Rattle.std.proofs.Common.{ℕ, zero, suc, ◌+◌, ◌≤◌, ◌<◌, ◌≡◌, ◌∙◌, ◌⊎◌, inl, inr, refl, sym, ap, subst, arith}
use Rattle.std.proofs.Common.{List, [], ◌∷◌, true, false, Contains, filter, not, nat_eq, Option}
use Rattle.std.proofs.lemmas.Bool.{eq-eqb, eqb-false, eqb-true, not_from_false, true≢false}
use Rattle.run_settings.specs.declared.settings.Settings.{Settings}
use Rattle.spec_core.specs.Code.{Program}
use Rattle.spec_core.proofs.Members.{one_filter, contains_first, contains_one, contains_later, one_contained, contains_none}
use Rattle.board_core.proofs.Lists.{filter_passes}
use Rattle.board_offers.proofs.Members.{in_filtered}
use Rattle.rule_model.specs.Events.{Event, pended, acted, replied, stalled, left}
use Rattle.rule_model.specs.Legal.{IsDerivation, IsPossible}
use Rattle.rule_model.specs.States.{State, start_state}
use Rattle.board_laws.specs.declared.stop_reason.StopReason.{StopReason}
use Rattle.log_states.specs.Clients.{numbers_from}
use Rattle.log_states.proofs.Members.{in_cases}
use Rattle.log_states.proofs.Tests.{by_cases, on_either}
use Rattle.session_laws.specs.Sessions.{IsDriven}
use Rattle.session_laws.proofs.Driven.{driven_derives}

-- the others of those that are open
abbrev others : ℕ → List ℕ → List ℕ
others client among = filter (λ other. not (nat_eq other client)) among

stays_among : (client k : ℕ) (among : List ℕ) → nat_eq k client ≡ false → Contains among k → Contains (others client among) k
stays_among client k among differ h =
    contains_one k (others client among)
    (one_filter (λ other. not (nat_eq other client)) k among (one_contained k among h) (not_from_false (nat_eq k client) differ))

not_itself : (k : ℕ) → not (nat_eq k k) ≡ true → ⊥
not_itself k h = absurd (true≢false (sym h ∙ ap not (eq-eqb k k refl)))

isnt_among : (k : ℕ) (among : List ℕ) → Contains (others k among) k → ⊥
isnt_among k among h =
    not_itself k (filter_passes (λ other. not (nat_eq other k)) k among (one_contained k (others k among) h))

module _ (program : Program) where
  -- by an entry a client that was open leaves, or it is open still
  still_open : (s t : State) (e : Event) (k : ℕ) → IsPossible program s e t → Contains s.open_clients k →
      (left k ≡ e) ⊎ Contains t.open_clients k
  still_open s t (pended client number offer ask) k h among = inr (subst (λ (z : State). Contains z.open_clients k) (sym h.4) among)
  still_open s t (acted action d by) k h among = inr (subst (λ (z : State). Contains z.open_clients k) (sym h.3) among)
  still_open s t (replied client number answer) k h among = inr (subst (λ (z : State). Contains z.open_clients k) (sym h.2) among)
  still_open s t (stalled names) k h among = inr (subst (λ (z : State). Contains z.open_clients k) (sym h.2) among)
  still_open s t (left client) k h among =
      by_cases (nat_eq k client)
      (λ e. inl (ap left (eqb-true k client e)))
      (λ e. inr (subst (λ (z : State). Contains z.open_clients k) (sym h.2) (stays_among client k s.open_clients e among)))

  -- who is open after an entry was so before
  was_open : (s t : State) (e : Event) (k : ℕ) → IsPossible program s e t → Contains t.open_clients k → Contains s.open_clients k
  was_open s t (pended client number offer ask) k h among = subst (λ (z : State). Contains z.open_clients k) h.4 among
  was_open s t (acted action d by) k h among = subst (λ (z : State). Contains z.open_clients k) h.3 among
  was_open s t (replied client number answer) k h among = subst (λ (z : State). Contains z.open_clients k) h.2 among
  was_open s t (stalled names) k h among = subst (λ (z : State). Contains z.open_clients k) h.2 among
  was_open s t (left client) k h among =
      in_filtered (λ other. not (nat_eq other client)) s.open_clients k (subst (λ (z : State). Contains z.open_clients k) h.2 among)

  -- who has left is not open
  has_gone : (s t : State) (k : ℕ) → IsPossible program s (left k) t → Contains t.open_clients k → ⊥
  has_gone s t k h among = isnt_among k s.open_clients (subst (λ (z : State). Contains z.open_clients k) h.2 among)

  gone_by : (s t : State) (e : Event) (k : ℕ) → left k ≡ e → IsPossible program s e t → Contains t.open_clients k → ⊥
  gone_by s t e k is h = has_gone s t k (subst (λ z. IsPossible program s z t) (sym is) h)

  -- the same by a log

  pub left_or_open : (log : List Event) (s t : State) (k : ℕ) → IsDerivation program log s t → Contains s.open_clients k →
      Contains log (left k) ⊎ Contains t.open_clients k
  left_or_open [] s t k h among = inr (subst (λ (z : State). Contains z.open_clients k) (sym h) among)
  left_or_open (e ∷ log) s t k (next, possible, h) among =
      on_either (still_open s next e k possible among)
      (λ is. inl (subst (λ z. Contains (e ∷ log) z) (sym is) (contains_first e log)))
      (λ still. on_either (left_or_open log next t k h still) (λ in_log. inl (contains_later e (left k) log in_log)) (λ now. inr now))

  pub was_open_before : (log : List Event) (s t : State) (k : ℕ) → IsDerivation program log s t → Contains t.open_clients k →
      Contains s.open_clients k
  was_open_before [] s t k h among = subst (λ (z : State). Contains z.open_clients k) h among
  was_open_before (e ∷ log) s t k (next, possible, h) among =
      was_open s next e k possible (was_open_before log next t k h among)

  pub left_isnt_open : (log : List Event) (s t : State) (k : ℕ) → IsDerivation program log s t → Contains log (left k) →
      Contains t.open_clients k → ⊥
  left_isnt_open [] s t k h in_log among = contains_none (left k) in_log
  left_isnt_open (e ∷ log) s t k (next, possible, h) in_log among =
      on_either (in_cases e (left k) log in_log)
      (λ is. gone_by s next e k (sym is) possible (was_open_before log next t k h among))
      (λ later. left_isnt_open log next t k h later among)

-- the numbers of clients

pub among_numbers : (first count k : ℕ) → first ≤ k → k < first + count → Contains (numbers_from first count) k
among_numbers first zero k least below = absurd (omega (arith, least, below))
among_numbers first (suc count) k least below =
    by_cases (nat_eq first k)
    (λ e. subst (λ z. Contains (first ∷ numbers_from (first + 1) count) z) (eqb-true first k e) (contains_first first (numbers_from (first + 1) count)))
    (λ e. contains_later first k (numbers_from (first + 1) count)
    (among_numbers (first + 1) count k (let differ = eqb-false first k e in omega (arith, least, differ)) (omega (arith, below))))

pub is_number : (first count k : ℕ) → Contains (numbers_from first count) k → (first ≤ k) × (k < first + count)
is_number first zero k h = absurd (contains_none k h)
is_number first (suc count) k h =
    on_either (in_cases first k (numbers_from (first + 1) count) h)
    (λ e. (omega (arith, e), omega (arith, e)))
    (λ later. let m = is_number (first + 1) count k later in let least = m.0 in let below = m.1 in (omega (arith, least), omega (arith, below)))

-- by a driven log

module _ (program : Program) (settings : Settings) (clients : ℕ) (stop : Option StopReason) (log : List Event) (s : State)
    (driven : IsDriven program settings clients stop log s) where
  derivation : IsDerivation program log (start_state driven.behaviour (numbers_from 1 clients)) s
  derivation = driven_derives program settings (start_state driven.behaviour (numbers_from 1 clients)) stop log s driven.driven

  -- who isn't open has left, and who is open hasn't

  pub not_open_has_left : (k : ℕ) → 1 ≤ k → k ≤ clients → (Contains s.open_clients k → ⊥) → Contains log (left k)
  not_open_has_left k least most out =
      on_either
      (left_or_open program log (start_state driven.behaviour (numbers_from 1 clients)) s k derivation
      (among_numbers 1 clients k least (omega (arith, most))))
      (λ in_log. in_log)
      (λ among. absurd (out among))

  pub open_hasnt_left : (k : ℕ) → Contains s.open_clients k → Contains log (left k) → ⊥
  open_hasnt_left k among in_log =
      left_isnt_open program log (start_state driven.behaviour (numbers_from 1 clients)) s k derivation in_log among

  -- where no client is open, each has left
  pub none_open_all_left : s.open_clients ≡ [] → (k : ℕ) → 1 ≤ k → k ≤ clients → Contains log (left k)
  none_open_all_left none k least most = not_open_has_left k least most (λ among. contains_none k (subst (λ z. Contains z k) none among))

  -- where some client is open, not all have left
  pub some_open_not_all_left : (s.open_clients ≡ [] → ⊥) → ((k : ℕ) → 1 ≤ k → k ≤ clients → Contains log (left k)) → ⊥
  some_open_not_all_left some all = by_open s.open_clients refl
    where
      is_open : (k : ℕ) → Contains s.open_clients k → ⊥
      is_open k among =
          let m = is_number 1 clients k
          (was_open_before program log (start_state driven.behaviour (numbers_from 1 clients)) s k derivation among) in
          let least = m.0 in
          let below = m.1 in
          open_hasnt_left k among (all k least (omega (arith, below)))

      by_open : (among : List ℕ) → s.open_clients ≡ among → ⊥
      by_open [] e = some e
      by_open (k ∷ ks) e = is_open k (subst (λ z. Contains z k) (sym e) (contains_first k ks))
