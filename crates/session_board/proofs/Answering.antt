-- The offers of a client in a driven log, and their answers.
use Rattle.std.proofs.Common.{ℕ, ◌≡◌, ◌∙◌, ◌⊎◌, inl, inr, refl, sym, ap, subst, arith, eq-eqb, eqb-true}
use Rattle.std.proofs.Common.{List, [], ◌∷◌, ◌++◌, length, map, append_assoc, append-nil, Bool, true, false, Contains, cond, not, nat_eq}
use Rattle.std.proofs.Common.{◌&&◌, Option, Some, None}
use Rattle.std.proofs.lemmas.List.{append_cancel_left, length-append, length-map, nil_from_length}
use Rattle.std.proofs.lemmas.List.Elements.{filter-append}
use Rattle.std.proofs.lemmas.Bool.{and_from, and_parts, true≢false}
use Rattle.run_settings.specs.declared.settings.Settings.{Settings}
use Rattle.spec_core.specs.Code.{Program}
use Rattle.spec_core.specs.Lists.{IsOneOf}
use Rattle.spec_core.proofs.Members.{one_filter, contains_one, one_contained, contains_none}
use Rattle.board_core.proofs.Lists.{filter_passes}
use Rattle.board_offers.specs.Waiting.{AreOfDifferentClients}
use Rattle.board_offers.proofs.Derivations.{pending_clients_differ}
use Rattle.board_offers.proofs.Members.{in_filtered}
use Rattle.rule_model.specs.Answers.{Answer}
use Rattle.rule_model.specs.Answering.{answered_in, name_of, offers_in}
use Rattle.rule_model.specs.Events.{Event, OfferName, pended, acted, replied, stalled, left}
use Rattle.rule_model.specs.Legal.{IsDerivation, IsIdle, IsPossible, IsPendingAnd}
use Rattle.rule_model.specs.declared.offer.Offer.{Offer}
use Rattle.rule_model.specs.States.{PendingOffer, State, start_state, without}
use Rattle.board_record.specs.Answered.{is_name, reply_by, reply_in}
use Rattle.board_laws.specs.declared.stop_reason.StopReason.{StopReason}
use Rattle.log_states.specs.Clients.{numbers_from}
use Rattle.log_states.specs.Possible.{HasPending}
use Rattle.log_states.proofs.Members.{in_cases}
use Rattle.log_states.proofs.Tests.{on_either}
use Rattle.session_laws.specs.Answers.{answered_to, names_of, of_client, offers_by}
use Rattle.session_laws.specs.Logs.{IsDrivenLog, IsLogBy}
use Rattle.session_laws.specs.Sessions.{IsDriven}
use Rattle.session_laws.proofs.Answered.{driven_logs_answer_clients}
use Rattle.session_laws.proofs.Driven.{Comes, driven_derives}
use Rattle.session_board.specs.Answers.{AnswersAll}

-- logs one behind another

offers_behind : (xs ys : List Event) → offers_in (xs ++ ys) ≡ offers_in xs ++ offers_in ys
offers_behind [] ys = refl
offers_behind (pended client number offer ask ∷ xs) ys =
    ap (λ l. record { client = client; number = number; offer = offer; ask = ask } ∷ l) (offers_behind xs ys)
offers_behind (acted action d by ∷ xs) ys = offers_behind xs ys
offers_behind (replied client number answer ∷ xs) ys = offers_behind xs ys
offers_behind (stalled names ∷ xs) ys = offers_behind xs ys
offers_behind (left client ∷ xs) ys = offers_behind xs ys

answers_behind : (xs ys : List Event) → answered_in (xs ++ ys) ≡ answered_in xs ++ answered_in ys
answers_behind [] ys = refl
answers_behind (pended client number offer ask ∷ xs) ys = answers_behind xs ys
answers_behind (acted action d None ∷ xs) ys = answers_behind xs ys
answers_behind (acted action d (Some name) ∷ xs) ys = ap (λ l. name ∷ l) (answers_behind xs ys)
answers_behind (replied client number answer ∷ xs) ys = ap (λ l. (client, number) ∷ l) (answers_behind xs ys)
answers_behind (stalled names ∷ xs) ys =
    ap (λ l. names ++ l) (answers_behind xs ys) ∙ sym (append_assoc names (answered_in xs) (answered_in ys))
answers_behind (left client ∷ xs) ys = answers_behind xs ys

pub offers_by_behind : (client : ℕ) (xs ys : List Event) → offers_by client (xs ++ ys) ≡ offers_by client xs ++ offers_by client ys
offers_by_behind client xs ys =
    ap (of_client client) (offers_behind xs ys) ∙ filter-append (λ p. nat_eq p.client client) (offers_in xs) (offers_in ys)

answered_to_behind : (client : ℕ) (xs ys : List Event) → answered_to client (xs ++ ys) ≡ answered_to client xs ++ answered_to client ys
answered_to_behind client xs ys =
    ap (names_of client) (answers_behind xs ys)
    ∙ filter-append (λ (name : OfferName). nat_eq name.0 client) (answered_in xs) (answered_in ys)

-- a client with all its answers has no offer pending

none_pending : (s : State) (client : ℕ) → of_client client s.pending ≡ [] → HasPending s client → ⊥
none_pending s client none (number, is) =
    subst (IsOneOf is.waits) none
    (one_filter (λ p. nat_eq p.client client) is.waits s.pending (one_contained is.waits s.pending is.among) (eq-eqb is.waits.client client is.client))

pub answered_not_pending : (program : Program) (settings : Settings) (clients : ℕ) (stop : Option StopReason) (log : List Event) (s : State)
    (client : ℕ) (known rest : List Event) → IsDriven program settings clients stop log s → log ≡ known ++ rest →
    offers_by client log ≡ offers_by client known → AnswersAll client known → HasPending s client → ⊥
answered_not_pending program settings clients stop log s client known rest driven parts all answered =
    let law = driven_logs_answer_clients program settings clients stop log s driven client in
    let mine = map name_of (of_client client s.pending) in
    let sum = sym (length-append (answered_to client log) mine) ∙ ap length law ∙ ap (λ ps. length (map name_of ps)) all in
    let whole = ap (λ l. length (answered_to client l)) parts ∙ ap length (answered_to_behind client known rest)
    ∙ length-append (answered_to client known) (answered_to client rest) in
    let at = ap length answered in
    let count = length-map (of_client client s.pending) name_of in
    none_pending s client (nil_from_length (of_client client s.pending) (omega (arith, sum, whole, at, count)))

-- after an answer to an offer of a client it has none pending

one_of_client : (ps : List PendingOffer) → AreOfDifferentClients ps → (p q : PendingOffer) → Contains ps p → Contains ps q →
    p.client ≡ q.client → p ≡ q
one_of_client [] d p q hp hq e = absurd (contains_none p hp)
one_of_client (x ∷ xs) d p q hp hq e =
    on_either (in_cases x p xs hp)
    (λ is_p. on_either (in_cases x q xs hq)
    (λ is_q. sym is_p ∙ is_q)
    (λ later_q. absurd (d.0 q later_q (sym e ∙ ap (λ (z : PendingOffer). z.client) (sym is_p)))))
    (λ later_p. on_either (in_cases x q xs hq)
    (λ is_q. absurd (d.0 p later_p (e ∙ ap (λ (z : PendingOffer). z.client) (sym is_q))))
    (λ later_q. one_of_client xs d.1 p q later_p later_q e))

none_kept : (client : ℕ) (ps : List PendingOffer) → ((p : PendingOffer) → Contains ps p → p.client ≡ client → ⊥) → of_client client ps ≡ []
none_kept client ps none = by_list (of_client client ps) (λ p h. h)
  where
    by_list : (qs : List PendingOffer) → ((p : PendingOffer) → IsOneOf p qs → IsOneOf p (of_client client ps)) → qs ≡ []
    by_list [] h = refl
    by_list (q ∷ qs) h =
        let among = h q (inl refl) in
        absurd (none q (kept_in q among)
        (eqb-true q.client client (filter_passes (λ p. nat_eq p.client client) q ps among)))
      where
        kept_in : (q : PendingOffer) → IsOneOf q (of_client client ps) → Contains ps q
        kept_in q among = in_filtered (λ p. nat_eq p.client client) ps q (contains_one q (of_client client ps) among)

taken_away : (s : State) (name : OfferName) (P : Offer → Type 0) → AreOfDifferentClients s.pending → IsPendingAnd s name P →
    of_client name.0 (without name s.pending) ≡ []
taken_away s name P differ is = none_kept name.0 (without name s.pending) by_offer
  where
    by_offer : (q : PendingOffer) → Contains (without name s.pending) q → q.client ≡ name.0 → ⊥
    by_offer q h e =
        let test = λ (p : PendingOffer). not (nat_eq p.client name.0 && nat_eq p.number name.1) in
        let same = one_of_client s.pending differ is.waits q is.among (in_filtered test s.pending q h) (is.client ∙ sym e) in
        let number : q.number ≡ name.1 = ap (λ (z : PendingOffer). z.number) (sym same) ∙ is.number in
        let both = and_from (nat_eq q.client name.0) (nat_eq q.number name.1) (eq-eqb q.client name.0 e) (eq-eqb q.number name.1 number) in
        absurd (true≢false (sym (filter_passes test q s.pending (one_contained q (without name s.pending) h)) ∙ ap not both))

only_if : (b : Bool) (o : Option Answer) (answer : Answer) → cond b o None ≡ Some answer → b ≡ true
only_if true o answer h = refl
only_if false o answer h = let never : ⊥ = cc in absurd never

is_client : (other name : OfferName) → is_name other name ≡ true → other.0 ≡ name.0
is_client other name h = eqb-true other.0 name.0 (and_parts (nat_eq other.0 name.0) (nat_eq other.1 name.1) h).0

after_answer : (program : Program) (s t : State) (event : Event) (at : ℕ) (name : OfferName) (answer : Answer) →
    AreOfDifferentClients s.pending → IsPossible program s event t → reply_in at event name ≡ Some answer → of_client name.0 t.pending ≡ []
after_answer program s t (pended client number offer ask) at name answer differ h says = let never : ⊥ = cc in absurd never
after_answer program s t (acted action d None) at name answer differ h says = let never : ⊥ = cc in absurd never
after_answer program s t (acted action d (Some other)) at name answer differ h says =
    let same = is_client other name (only_if (is_name other name) (reply_by at action) answer says) in
    ap (λ (z : State). of_client name.0 z.pending) h.3 ∙ ap (λ c. of_client c (without other s.pending)) (sym same)
    ∙ taken_away s other _ differ h.2
after_answer program s t (replied client number reply) at name answer differ h says =
    let same = is_client (client, number) name (only_if (is_name (client, number) name) (Some reply) answer says) in
    ap (λ (z : State). of_client name.0 z.pending) h.2 ∙ ap (λ c. of_client c (without (client, number) s.pending)) (sym same)
    ∙ taken_away s (client, number) _ differ h.0
after_answer program s t (stalled names) at name answer differ h says = ap (λ (z : State). of_client name.0 z.pending) h.2
after_answer program s t (left client) at name answer differ h says = let never : ⊥ = cc in absurd never

-- beginnings of driven logs are driven

two_fronts : {A : Type 0} (xs ys zs ws : List A) → xs ++ ys ≡ zs ++ ws →
    ((r : List A) × (zs ≡ xs ++ r)) ⊎ ((r : List A) × (xs ≡ zs ++ r))
two_fronts [] ys zs ws e = inl (zs, refl)
two_fronts (x ∷ xs) ys [] ws e = inr (x ∷ xs, refl)
two_fronts {A} (x ∷ xs) ys (z ∷ zs) ws e =
    let head : x ≡ z = cc in
    let tail : xs ++ ys ≡ zs ++ ws = cc in
    on_either (two_fronts xs ys zs ws tail)
    (λ r. inl (r.0, ap (λ l. z ∷ l) r.1 ∙ ap (λ y. y ∷ xs ++ r.0) (sym head)))
    (λ r. inr (r.0, ap (λ l. x ∷ l) r.1 ∙ ap (λ y. y ∷ zs ++ r.0) head))

module _ (program : Program) (comes : State → Event → Type 0) where
  log_front : (xs ys : List Event) (s t : State) → IsLogBy program comes (xs ++ ys) s t → (m : State) × IsLogBy program comes xs s m
  log_front [] ys s t h = (s, refl)
  log_front (x ∷ xs) ys s t (next, possible, why, h) = let r = log_front xs ys next t h in (r.0, (next, possible, why, r.1))

record IsFrontDriven (program : Program) (settings : Settings) (start : State) (log : List Event) : Type 0 where
  pub stop : Option StopReason
  pub last : State
  pub driven : IsDrivenLog program settings start stop log last

driven_front : (program : Program) (settings : Settings) (start : State) (stop : Option StopReason) (xs ys : List Event) (s : State) →
    IsDrivenLog program settings start stop (xs ++ ys) s → IsFrontDriven program settings start xs
driven_front program settings start None xs ys s h =
    let r = log_front program (Comes program settings None) xs ys start s h in
    record { stop = None; last = r.0; driven = r.1 }
driven_front program settings start (Some reason) xs ys s h =
    on_either (two_fronts xs ys h.before h.after h.parts)
    (λ r.
    let f = log_front program (Comes program settings None) xs r.0 start h.middle
    (subst (λ l. IsLogBy program (Comes program settings None) l start h.middle) r.1 h.by_rules) in
    record { stop = None; last = f.0; driven = f.1 })
    (λ r.
    let rest = append_cancel_left h.before (r.0 ++ ys) h.after
    (sym (append_assoc h.before r.0 ys) ∙ ap (λ l. l ++ ys) (sym r.1) ∙ h.parts) in
    let f = log_front program (Comes program settings (Some reason)) r.0 ys h.middle s
    (subst (λ l. IsLogBy program (Comes program settings (Some reason)) l h.middle s) (sym rest) h.by_reason) in
    record {
      stop = Some reason;
      last = f.0;
      driven = record {
        before = h.before;
        after = r.0;
        parts = r.1;
        middle = h.middle;
        by_rules = h.by_rules;
        is_so = h.is_so;
        asked = h.asked;
        by_reason = f.1;
      };
    })

record HasLastStep (program : Program) (start : State) (log : List Event) (event : Event) (last : State) : Type 0 where
  pub state : State
  pub before : IsDerivation program log start state
  pub step : IsPossible program state event last

last_step : (program : Program) (log : List Event) (event : Event) (s t : State) → IsDerivation program (log ++ event ∷ []) s t →
    HasLastStep program s log event t
last_step program [] event s t (next, possible, h) =
    record { state = s; before = refl; step = subst (λ z. IsPossible program s event z) (sym h) possible }
last_step program (e ∷ log) event s t (next, possible, h) =
    let r = last_step program log event next t h in
    record { state = r.state; before = (next, possible, r.before); step = r.step }

-- up to an answer to an offer of a client each of its offers is answered
pub answered_up_to : (program : Program) (settings : Settings) (clients : ℕ) (stop : Option StopReason) (log : List Event) (s : State)
    (before : List Event) (event : Event) (after : List Event) (at : ℕ) (name : OfferName) (answer : Answer) →
    IsDriven program settings clients stop log s → log ≡ (before ++ event ∷ []) ++ after → reply_in at event name ≡ Some answer →
    AnswersAll name.0 (before ++ event ∷ [])
answered_up_to program settings clients stop log s before event after at name answer driven parts says =
    let start = start_state driven.behaviour (numbers_from 1 clients) in
    let front = driven_front program settings start stop (before ++ event ∷ []) after s
    (subst (λ l. IsDrivenLog program settings start stop l s) parts driven.driven) in
    let step = last_step program before event start front.last
    (driven_derives program settings start front.stop (before ++ event ∷ []) front.last front.driven) in
    let none = after_answer program step.state front.last event at name answer
    (pending_clients_differ program before start step.state step.before tt) step.step says in
    let law = driven_logs_answer_clients program settings clients front.stop (before ++ event ∷ []) front.last
    (record { behaviour = driven.behaviour; start = driven.start; driven = front.driven }) name.0 in
    sym (append-nil (answered_to name.0 (before ++ event ∷ [])))
    ∙ ap (λ ps. answered_to name.0 (before ++ event ∷ []) ++ map name_of ps) (sym none) ∙ law

-- a client with no offer pending has all its answers
pub idle_answers_all : (program : Program) (settings : Settings) (clients : ℕ) (stop : Option StopReason) (log : List Event) (s : State)
    (client : ℕ) → IsDriven program settings clients stop log s → IsIdle s client → AnswersAll client log
idle_answers_all program settings clients stop log s client driven idle =
    sym (append-nil (answered_to client log))
    ∙ ap (λ ps. answered_to client log ++ map name_of ps) (sym (none_kept client s.pending idle))
    ∙ driven_logs_answer_clients program settings clients stop log s driven client
