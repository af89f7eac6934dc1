-- The offers of each client are answered in order.
use Rattle.std.proofs.Common.{ℕ, ◌≡◌, ◌∙◌, refl, sym, ap, subst, List, [], ◌∷◌, ◌++◌, map, append_assoc, append-nil, Contains, Option, Some, None}
use Rattle.std.proofs.Common.{inl, inr, Bool, true, false, not, nat_eq, nat_lt, ◌&&◌, cond}
use Rattle.std.proofs.lemmas.Bool.{eqb-true, eq-eqb, ne_eqb, and_parts}
use Rattle.std.proofs.lemmas.List.{map-append}
use Rattle.std.proofs.lemmas.List.Elements.{filter-append}
use Rattle.run_settings.specs.declared.settings.Settings.{Settings}
use Rattle.spec_core.specs.Code.{Program}
use Rattle.spec_core.proofs.Members.{contains_first, contains_one, contains_later, one_contained, contains_none}
use Rattle.rule_model.specs.Answering.{name_of, offers_in, answered_in}
use Rattle.rule_model.specs.Derivations.{Derivation}
use Rattle.rule_model.specs.Events.{OfferName, Event, pended, acted, replied, stalled, left}
use Rattle.rule_model.specs.Legal.{IsPossible, IsPending}
use Rattle.rule_model.specs.States.{PendingOffer, State, start_state, without}
use Rattle.decision_trees.specs.Rules.{Next, takes, deadlocks, is_beyond, is_not_now, goes_on, stalls, nothing}
use Rattle.log_states.proofs.Members.{in_cases}
use Rattle.log_states.proofs.Tests.{by_cases, on_either}
use Rattle.log_states.specs.Clients.{numbers_from}
use Rattle.board_offers.specs.Waiting.{AreOfDifferentClients, by_client, insert_by_client}
use Rattle.board_offers.proofs.Derivations.{pending_clients_differ}
use Rattle.board_offers.proofs.Members.{in_by_client}
use Rattle.board_laws.specs.declared.stop_reason.StopReason.{StopReason}
use Rattle.board_laws.specs.Next.{next_ended, next_by_rules, IsEventOf}
use Rattle.session_laws.specs.Answers.{answered_to, names_of, of_client, offers_by}
use Rattle.session_laws.specs.Laws.{DrivenLogsAnswerClients}
use Rattle.session_laws.specs.Logs.{IsLogBy, ComesByRules, ComesByReason, IsDrivenLog}
use Rattle.session_laws.proofs.Logs.{behind, in_other_way}

-- an event that stalls names all that is pending, by client
abbrev pub StallsAll : State → Event → Type 0
StallsAll s (stalled names) = names ≡ map name_of (by_client s.pending)
StallsAll s _ = Unit {0}

module _ (k : ℕ) where
  abbrev mine : List PendingOffer → List OfferName
  mine ps = map name_of (of_client k ps)

  mine_behind : (ps qs : List PendingOffer) → mine (ps ++ qs) ≡ mine ps ++ mine qs
  mine_behind ps qs =
      ap (map name_of) (filter-append (λ p. nat_eq p.client k) ps qs) ∙ map-append name_of (of_client k ps) (of_client k qs)

  mine_of : (p : PendingOffer) (ps : List PendingOffer) → p.client ≡ k → mine (p ∷ ps) ≡ name_of p ∷ mine ps
  mine_of p ps e = ap (λ b. map name_of (cond b (p ∷ of_client k ps) (of_client k ps))) (eq-eqb p.client k e)

  others_of : (p : PendingOffer) (ps : List PendingOffer) → (p.client ≡ k → ⊥) → mine (p ∷ ps) ≡ mine ps
  others_of p ps e = ap (λ b. map name_of (cond b (p ∷ of_client k ps) (of_client k ps))) (ne_eqb p.client k e)

  -- none is the client's where no offer is
  none_mine : (ps : List PendingOffer) → ((q : PendingOffer) → Contains ps q → q.client ≡ k → ⊥) → mine ps ≡ []
  none_mine [] h = refl
  none_mine (p ∷ ps) h = others_of p ps (h p (contains_first p ps)) ∙ none_mine ps (λ q m. h q (contains_later p q ps m))

  -- without the offer of a name, one less
  name_first : (name : OfferName) (names : List OfferName) → name.0 ≡ k → names_of k (name ∷ names) ≡ name ∷ names_of k names
  name_first name names e = ap (λ b. cond b (name ∷ names_of k names) (names_of k names)) (eq-eqb name.0 k e)

  -- an offer that is the client's, among offers of different clients, is the only one
  only_mine : (ps : List PendingOffer) (p : PendingOffer) → AreOfDifferentClients ps → Contains ps p → p.client ≡ k →
      mine ps ≡ name_of p ∷ []
  only_mine [] p d among e = absurd (contains_none p among)
  only_mine (q ∷ qs) p d among e = on_either (in_cases q p qs among)
      (λ f.
      let own : q.client ≡ k = ap (λ z. z.client) f ∙ e in
      mine_of q qs own ∙ ap (λ z. name_of q ∷ z) (none_mine qs (λ r m g. d.0 r m (g ∙ sym own))) ∙ ap (λ z. name_of z ∷ []) f)
      (λ m. others_of q qs (λ f. d.0 p m (e ∙ sym f)) ∙ only_mine qs p d.1 m e)

  -- where the offer of a name is taken away
  abbrev test_for : OfferName → PendingOffer → Bool
  test_for name p = nat_eq p.client name.0 && nat_eq p.number name.1

  without_other : (name : OfferName) (ps : List PendingOffer) → (name.0 ≡ k → ⊥) → mine (without name ps) ≡ mine ps
  without_other name [] h = refl
  without_other name (p ∷ ps) h = by_cases (test_for name p)
      (λ e.
      let c = eqb-true p.client name.0 (and_parts (nat_eq p.client name.0) (nat_eq p.number name.1) e).0 in
      ap (λ b. mine (cond (not b) (p ∷ without name ps) (without name ps))) e ∙ without_other name ps h
      ∙ sym (others_of p ps (λ f. h (sym c ∙ f))))
      (λ e.
      ap (λ b. mine (cond (not b) (p ∷ without name ps) (without name ps))) e
      ∙ by_cases (nat_eq p.client k)
      (λ f. let own = eqb-true p.client k f in
      mine_of p (without name ps) own ∙ ap (λ z. name_of p ∷ z) (without_other name ps h) ∙ sym (mine_of p ps own))
      (λ f. ap (λ b. map name_of (cond b (p ∷ of_client k (without name ps)) (of_client k (without name ps)))) f
      ∙ without_other name ps h ∙ sym (ap (λ b. map name_of (cond b (p ∷ of_client k ps) (of_client k ps))) f)))

  -- no offer is left of what is without those of a client
  contained_without : (name : OfferName) (ps : List PendingOffer) (q : PendingOffer) → Contains (without name ps) q →
      Contains ps q × (test_for name q ≡ false)
  contained_without name [] q m = absurd (contains_none q m)
  contained_without name (p ∷ ps) q m = by_cases (test_for name p)
      (λ e.
      let r = contained_without name ps q (subst (λ zs. Contains zs q) (ap (λ b. cond (not b) (p ∷ without name ps) (without name ps)) e) m) in
      (contains_later p q ps r.0, r.1))
      (λ e. on_either
      (in_cases p q (without name ps) (subst (λ zs. Contains zs q) (ap (λ b. cond (not b) (p ∷ without name ps) (without name ps)) e) m))
      (λ f. (subst (λ z. Contains (p ∷ ps) z) f (contains_first p ps), subst (λ z. test_for name z ≡ false) f e))
      (λ n. let r = contained_without name ps q n in (contains_later p q ps r.0, r.1)))

  -- the offer of a name is pending, and is taken away
  one_less : (s : State) (name : OfferName) → AreOfDifferentClients s.pending → IsPending s name →
      mine s.pending ≡ names_of k (name ∷ []) ++ mine (without name s.pending)
  one_less s name d is = by_cases (nat_eq name.0 k)
      (λ e.
      let own = eqb-true name.0 k e in
      let p = is.waits in
      let same : name_of p ≡ name = λ i. (is.client i, is.number i) in
      only_mine s.pending p d is.among (is.client ∙ own)
      ∙ ap (λ z. z ∷ []) same
      ∙ ap (λ z. name ∷ z) (sym (none_mine (without name s.pending) (none_left own)))
      ∙ ap (λ z. z ++ mine (without name s.pending)) (sym (name_first name [] own)))
      (λ e.
      sym (without_other name s.pending (λ f. true_isnt (sym (eq-eqb name.0 k f) ∙ e)))
      ∙ ap (λ b. cond b (name ∷ []) [] ++ mine (without name s.pending)) (sym e))
    where
      true_isnt : true ≡ false → ⊥
      true_isnt f = let never : ⊥ = cc in never

      -- of the client nothing else is pending
      none_left : name.0 ≡ k → (q : PendingOffer) → Contains (without name s.pending) q → q.client ≡ k → ⊥
      none_left own q m f =
          let r = contained_without name s.pending q m in
          let one : name_of q ∷ [] ≡ name_of is.waits ∷ [] =
          sym (only_mine s.pending q d r.0 f) ∙ only_mine s.pending is.waits d is.among (is.client ∙ own) in
          let same : name_of q ≡ name_of is.waits = first_is one in
          let c : q.client ≡ name.0 = f ∙ sym own in
          let n : q.number ≡ name.1 = ap (λ (z : OfferName). z.1) same ∙ is.number in
          true_isnt (sym (both (nat_eq q.client name.0) (nat_eq q.number name.1) (eq-eqb q.client name.0 c) (eq-eqb q.number name.1 n)) ∙ r.1)
        where
          first_is : {x y : OfferName} → x ∷ [] ≡ y ∷ [] → x ≡ y
          first_is g = cc

          both : (a b : Bool) → a ≡ true → b ≡ true → a && b ≡ true
          both true b g h = h
          both false b g h = let never : ⊥ = cc in absurd never

  -- by ascending client the client's offer is the same
  inserted : (p : PendingOffer) (qs : List PendingOffer) → ((q : PendingOffer) → Contains qs q → q.client ≡ p.client → ⊥) →
      mine (insert_by_client p qs) ≡ mine (p ∷ qs)
  inserted p [] h = refl
  inserted p (q ∷ qs) h =
      let rest = inserted p qs (λ r m. h r (contains_later q r qs m)) in
      by_cases (nat_lt q.client p.client)
      (λ e. ap (λ b. mine (cond b (q ∷ insert_by_client p qs) (p ∷ q ∷ qs))) e ∙ moved rest)
      (λ e. ap (λ b. mine (cond b (q ∷ insert_by_client p qs) (p ∷ q ∷ qs))) e)
    where
      moved : mine (insert_by_client p qs) ≡ mine (p ∷ qs) → mine (q ∷ insert_by_client p qs) ≡ mine (p ∷ q ∷ qs)
      moved rest = by_cases (nat_eq q.client k)
          (λ f.
          let own = eqb-true q.client k f in
          let other : p.client ≡ k → ⊥ = λ g. h q (contains_first q qs) (own ∙ sym g) in
          mine_of q (insert_by_client p qs) own ∙ ap (λ z. name_of q ∷ z) (rest ∙ others_of p qs other) ∙ sym (mine_of q qs own)
          ∙ sym (others_of p (q ∷ qs) other))
          (λ f.
          ap (λ b. map name_of (cond b (q ∷ of_client k (insert_by_client p qs)) (of_client k (insert_by_client p qs)))) f ∙ rest
          ∙ by_cases (nat_eq p.client k)
          (λ g. let own = eqb-true p.client k g in
          mine_of p qs own
          ∙ ap (λ z. name_of p ∷ z) (sym (ap (λ b. map name_of (cond b (q ∷ of_client k qs) (of_client k qs))) f))
          ∙ sym (mine_of p (q ∷ qs) own))
          (λ g.
          ap (λ b. map name_of (cond b (p ∷ of_client k qs) (of_client k qs))) g
          ∙ sym (ap (λ b. map name_of (cond b (q ∷ of_client k qs) (of_client k qs))) f)
          ∙ sym (ap (λ b. map name_of (cond b (p ∷ of_client k (q ∷ qs)) (of_client k (q ∷ qs)))) g)))

  sorted : (ps : List PendingOffer) → AreOfDifferentClients ps → mine (by_client ps) ≡ mine ps
  sorted [] d = refl
  sorted (p ∷ ps) d =
      inserted p (by_client ps) (λ q m. d.0 q (in_sorted ps q m))
      ∙ by_cases (nat_eq p.client k)
      (λ e. let own = eqb-true p.client k e in
      mine_of p (by_client ps) own ∙ ap (λ z. name_of p ∷ z) (sorted ps d.1) ∙ sym (mine_of p ps own))
      (λ e.
      ap (λ b. map name_of (cond b (p ∷ of_client k (by_client ps)) (of_client k (by_client ps)))) e ∙ sorted ps d.1
      ∙ sym (ap (λ b. map name_of (cond b (p ∷ of_client k ps) (of_client k ps))) e))
    where
      in_sorted : (qs : List PendingOffer) (q : PendingOffer) → Contains (by_client qs) q → Contains qs q
      in_sorted qs q m = contains_one q qs (in_by_client qs q (one_contained q (by_client qs) m))

  -- the names of a list of offers that are the client's are those of its offers
  names_mine : (ps : List PendingOffer) → names_of k (map name_of ps) ≡ mine ps
  names_mine [] = refl
  names_mine (p ∷ ps) = by_cases (nat_eq p.client k)
      (λ e. let own = eqb-true p.client k e in
      name_first (name_of p) (map name_of ps) own ∙ ap (λ z. name_of p ∷ z) (names_mine ps) ∙ sym (mine_of p ps own))
      (λ e.
      ap (λ b. cond b (name_of p ∷ names_of k (map name_of ps)) (names_of k (map name_of ps))) e ∙ names_mine ps
      ∙ sym (ap (λ b. map name_of (cond b (p ∷ of_client k ps) (of_client k ps))) e))

  names_behind : (xs ys : List OfferName) → names_of k (xs ++ ys) ≡ names_of k xs ++ names_of k ys
  names_behind xs ys = filter-append (λ (name : OfferName). nat_eq name.0 k) xs ys

  module _ (program : Program) where
    -- What is pending at first, and what is offered then, is what is answered then, and what is pending at last.
    abbrev Balanced : List Event → State → State → Type 0
    Balanced log s t = mine s.pending ++ map name_of (offers_by k log) ≡ answered_to k log ++ mine t.pending

    -- an event by which the offers of these names are answered, and are pending no longer
    answering : (names : List OfferName) (s next t : State) (offered : List OfferName) (answered : List OfferName) →
        mine s.pending ≡ names_of k names ++ mine next.pending → mine next.pending ++ offered ≡ names_of k answered ++ mine t.pending →
        mine s.pending ++ offered ≡ names_of k (names ++ answered) ++ mine t.pending
    answering names s next t offered answered gone h =
        ap (λ z. z ++ offered) gone ∙ append_assoc (names_of k names) (mine next.pending) offered ∙ ap (λ z. names_of k names ++ z) h
        ∙ sym (append_assoc (names_of k names) (names_of k answered) (mine t.pending))
        ∙ ap (λ z. z ++ mine t.pending) (sym (names_behind names answered))

    balanced : (log : List Event) (s t : State) → AreOfDifferentClients s.pending → IsLogBy program StallsAll log s t → Balanced log s t
    balanced [] s t d h = append-nil (mine s.pending) ∙ ap (λ z. mine z.pending) (sym h)
    balanced (event ∷ log) s t d (next, possible, all, h) =
        by_event event possible all
        (balanced log next t (pending_clients_differ program (event ∷ []) s next (next, possible, refl) d) h)
      where
        by_event : (e : Event) → IsPossible program s e next → StallsAll s e → Balanced log next t → Balanced (e ∷ log) s t
        by_event (pended client number offer ask) p c b =
            let q : PendingOffer = record { client = client; number = number; offer = offer; ask = ask } in
            let grown : mine next.pending ≡ mine s.pending ++ mine (q ∷ []) =
            ap (λ (z : State). mine z.pending) p.4 ∙ mine_behind s.pending (q ∷ []) in
            let offered : map name_of (of_client k (q ∷ offers_in log)) ≡ mine (q ∷ []) ++ map name_of (offers_by k log) =
            mine_behind (q ∷ []) (offers_in log) in
            ap (λ z. mine s.pending ++ z) offered ∙ sym (append_assoc (mine s.pending) (mine (q ∷ [])) (map name_of (offers_by k log)))
            ∙ ap (λ z. z ++ map name_of (offers_by k log)) (sym grown) ∙ b
        by_event (acted action tree None) (rest, derives, agreed, e) c b =
            ap (λ z. z ++ map name_of (offers_by k log)) (sym (ap (λ (z : State). mine z.pending) e)) ∙ b
        by_event (acted action tree (Some name)) (rest, derives, agreed, e) c b =
            answering (name ∷ []) s next t (map name_of (offers_by k log)) (answered_in log)
            (one_less s name d (record { waits = agreed.waits; among = agreed.among; client = agreed.client; number = agreed.number; holds = tt })
            ∙ ap (λ z. names_of k (name ∷ []) ++ z) (sym (ap (λ (z : State). mine z.pending) e)))
            b
        by_event (replied client number answer) (is, at, e) c b =
            answering ((client, number) ∷ []) s next t (map name_of (offers_by k log)) (answered_in log)
            (one_less s (client, number) d is ∙ ap (λ z. names_of k ((client, number) ∷ []) ++ z) (sym (ap (λ (z : State). mine z.pending) e)))
            b
        by_event (stalled names) (some, all, e) c b =
            answering names s next t (map name_of (offers_by k log)) (answered_in log)
            (sym (sorted s.pending d) ∙ sym (names_mine (by_client s.pending)) ∙ ap (names_of k) (sym c)
            ∙ sym (append-nil (names_of k names)) ∙ ap (λ z. names_of k names ++ z) (sym (ap (λ (z : State). mine z.pending) e)))
            b
        by_event (left client) (is_open, idle, e) c b =
            ap (λ z. z ++ map name_of (offers_by k log)) (sym (ap (λ (z : State). mine z.pending) e)) ∙ b

module _ (program : Program) (settings : Settings) where
  entry_stalls_all : (s : State) (entry : Next PendingOffer Derivation) (event : Event) → IsEventOf program settings s entry event →
      StallsAll s event
  entry_stalls_all s (takes p d) event (some, a, e) = subst (StallsAll s) (sym e) tt
  entry_stalls_all s deadlocks event (p, least, e) = subst (StallsAll s) (sym e) tt
  entry_stalls_all s (is_beyond p d) event e = subst (StallsAll s) (sym e) tt
  entry_stalls_all s (is_not_now p) event e = subst (StallsAll s) (sym e) tt
  entry_stalls_all s (goes_on trees) event (some, d, at, a, e) = subst (StallsAll s) (sym e) tt
  entry_stalls_all s stalls event e = subst (StallsAll s) (sym e) refl
  entry_stalls_all s nothing event e = absurd e

  rules_stall_all : (s : State) (event : Event) → ComesByRules program settings s event → StallsAll s event
  rules_stall_all s event (inr (next_ended p ended least e)) = subst (StallsAll s) (sym e) tt
  rules_stall_all s event (inr (next_by_rules entry goes next comes)) = entry_stalls_all s entry event comes
  rules_stall_all s (pended client number offer ask) (inl own) = tt
  rules_stall_all s (left client) (inl own) = tt
  rules_stall_all s (acted action d by) (inl own) = absurd own
  rules_stall_all s (replied client number answer) (inl own) = absurd own
  rules_stall_all s (stalled names) (inl own) = absurd own

  reason_stalls_all : (reason : StopReason) (s : State) (event : Event) → ComesByReason reason s event → StallsAll s event
  reason_stalls_all reason s event (inr (p, least, e)) = subst (StallsAll s) (sym e) tt
  reason_stalls_all reason s (pended client number offer ask) (inl own) = tt
  reason_stalls_all reason s (left client) (inl own) = tt
  reason_stalls_all reason s (acted action d by) (inl own) = absurd own
  reason_stalls_all reason s (replied client number answer) (inl own) = absurd own
  reason_stalls_all reason s (stalled names) (inl own) = absurd own

  pub driven_stalls_all : (start : State) (stop : Option StopReason) (log : List Event) (s : State) →
      IsDrivenLog program settings start stop log s → IsLogBy program StallsAll log start s
  driven_stalls_all start None log s h = in_other_way program (ComesByRules program settings) StallsAll rules_stall_all log start s h
  driven_stalls_all start (Some reason) log s h =
      subst (λ l. IsLogBy program StallsAll l start s) (sym h.parts)
      (behind program StallsAll h.before h.after start h.middle s
      (in_other_way program (ComesByRules program settings) StallsAll rules_stall_all h.before start h.middle h.by_rules)
      (in_other_way program (ComesByReason reason) StallsAll (reason_stalls_all reason) h.after h.middle s h.by_reason))

pub driven_logs_answer_clients : DrivenLogsAnswerClients
driven_logs_answer_clients program settings clients stop log s h client =
    let start = start_state h.behaviour (numbers_from 1 clients) in
    sym (balanced client program log start s tt (driven_stalls_all program settings start stop log s h.driven))
