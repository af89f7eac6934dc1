-- A whole session of one client is its run.
use Rattle.std.proofs.Common.{ℕ, ◌≡◌, ◌∙◌, refl, sym, ap, subst, List, [], ◌∷◌, ◌++◌, map, append_assoc, append-nil, Contains, Option, Some, None}
use Rattle.std.proofs.Common.{inl, inr, nat_eq, cond, Bool, true, false}
use Rattle.run_settings.specs.declared.settings.Settings.{Settings}
use Rattle.spec_core.specs.Code.{Program}
use Rattle.spec_core.proofs.Members.{contains_first, contains_none}
use Rattle.rule_model.specs.Events.{Event, pended, acted, replied, stalled, left}
use Rattle.rule_model.specs.Legal.{IsPossible, IsIdle}
use Rattle.rule_model.specs.States.{PendingOffer, State, start_state}
use Rattle.rule_model.specs.Wishes.{Wish}
use Rattle.symbolic_rules.specs.Windows.{Windows}
use Rattle.log_states.specs.Clients.{numbers_from}
use Rattle.log_states.proofs.Members.{in_cases}
use Rattle.log_states.proofs.Tests.{on_either}
use Rattle.board_laws.specs.declared.stop_reason.StopReason.{StopReason}
use Rattle.board_laws.specs.Next.{AreSessionWindows}
use Rattle.client_laws.specs.Runs.{IsRun, run_begins, run_offers, run_leaves, run_goes_on, run_stops, run_tells, clients_for}
use Rattle.client_laws.specs.Runs.{IsSettledAt, all_told, none_next}
use Rattle.session_laws.specs.Answers.{offers_by}
use Rattle.session_laws.specs.Logs.{IsLogBy, ComesByRules, IsDrivenLog, IsOfClient}
use Rattle.session_laws.proofs.Driven.{Comes}
use Rattle.board_offers.proofs.Members.{in_filtered}
use Rattle.session_laws.specs.AnswerLaws.{SessionsOfOneAreClientRuns}
use Rattle.session_laws.specs.Wishes.{wish_in, wishes_by}
use Rattle.session_laws.proofs.Awaiting.{nothing_next}
use Rattle.session_laws.proofs.Numbers.{wishes_of_numbered}
use Rattle.session_laws.proofs.Open.{WaitsByOpen, after_entry}

-- no client but 1 is open, and offers are pending of open clients alone
record IsOfOne (s : State) : Type 0 where
  clients : (client : ℕ) → Contains s.open_clients client → client ≡ 1
  waits : WaitsByOpen s

-- where the client is idle, nothing is pending
none_waits : (s : State) → IsOfOne s → IsIdle s 1 → s.pending ≡ []
none_waits s one idle = by_offers s.pending (λ p m. m)
  where
    by_offers : (ps : List PendingOffer) → ((p : PendingOffer) → Contains ps p → Contains s.pending p) → ps ≡ []
    by_offers [] h = refl
    by_offers (p ∷ ps) h = let m = h p (contains_first p ps) in absurd (idle p m (one.clients p.client (one.waits p m)))

module _ (program : Program) where
  stays_of_one : (s : State) (event : Event) (t : State) → IsPossible program s event t → IsOfOne s → IsOfOne t
  stays_of_one s event t possible one = record {
    clients = by_event event possible;
    waits = after_entry program s event t possible one.waits;
  }
    where
      same : t.open_clients ≡ s.open_clients → (client : ℕ) → Contains t.open_clients client → client ≡ 1
      same e client m = one.clients client (subst (λ cs. Contains cs client) e m)

      by_event : (e : Event) → IsPossible program s e t → (client : ℕ) → Contains t.open_clients client → client ≡ 1
      by_event (pended client number offer ask) (is_open, idle, is_next, gate, e) = same (ap (λ (z : State). z.open_clients) e)
      by_event (acted action tree None) (rest, derives, agreed, e) = same (ap (λ (z : State). z.open_clients) e)
      by_event (acted action tree (Some name)) (rest, derives, agreed, e) = same (ap (λ (z : State). z.open_clients) e)
      by_event (replied client number answer) (pending, at, e) = same (ap (λ (z : State). z.open_clients) e)
      by_event (stalled names) (some, all, e) = same (ap (λ (z : State). z.open_clients) e)
      by_event (left client) (is_open, idle, e) = λ k m.
          one.clients k (in_filtered _ s.open_clients k (subst (λ cs. Contains cs k) (ap (λ (z : State). z.open_clients) e) m))

  along : (Way : State → Event → Type 0) (log : List Event) (s t : State) → IsLogBy program Way log s t → IsOfOne s → IsOfOne t
  along Way [] s t e one = subst IsOfOne (sym e) one
  along Way (event ∷ log) s t (next, possible, comes, h) one = along Way log next t h (stays_of_one s event next possible one)

-- what is wished in two logs, one behind the other
pub wishes_behind : (client : ℕ) (xs ys : List Event) → wishes_by client (xs ++ ys) ≡ wishes_by client xs ++ wishes_by client ys
wishes_behind client [] ys = refl
wishes_behind client (pended k number offer ask ∷ xs) ys =
    by_test (record { client = k; number = number; offer = offer; ask = ask }) (nat_eq k client) (offers_by client xs)
    (offers_by client (xs ++ ys)) (wishes_behind client xs ys)
  where
    by_test : (q : PendingOffer) (b : Bool) (ps qs : List PendingOffer) → map wish_in qs ≡ map wish_in ps ++ wishes_by client ys →
        map wish_in (cond b (q ∷ qs) qs) ≡ map wish_in (cond b (q ∷ ps) ps) ++ wishes_by client ys
    by_test q true ps qs h = ap (λ z. wish_in q ∷ z) h
    by_test q false ps qs h = h
wishes_behind client (acted action tree by ∷ xs) ys = wishes_behind client xs ys
wishes_behind client (replied k number answer ∷ xs) ys = wishes_behind client xs ys
wishes_behind client (stalled names ∷ xs) ys = wishes_behind client xs ys
wishes_behind client (left k ∷ xs) ys = wishes_behind client xs ys

module _ (program : Program) (settings : Settings) (w : Windows) (of_session : AreSessionWindows program settings w) where
  -- where the client may act, nothing else is left to be done
  settled : (stop : Option StopReason) (s : State) → IsOfOne s → Contains s.open_clients 1 → IsIdle s 1 → IsSettledAt program settings stop s
  settled None s one is_open idle =
      let none = none_waits s one idle in
      none_next refl (λ ended. none) (nothing_next s none 1 is_open idle program settings w of_session)
  settled (Some reason) s one is_open idle = all_told reason refl (none_waits s one idle)

  module _ (start : State) where
    -- an entry that the session makes
    told : (stop : Option StopReason) (wishes : List Wish) (before : List Event) (m : State) (event : Event) (s : State) →
        IsRun program settings start stop wishes before m → (IsOfClient event → ⊥) → Comes program settings stop m event →
        IsPossible program m event s → IsRun program settings start stop wishes (before ++ event ∷ []) s
    told None wishes before m event s run not_own (inl own) possible = absurd (not_own own)
    told None wishes before m event s run not_own (inr next) possible = run_goes_on before event m refl refl run next possible
    told (Some reason) wishes before m event s run not_own (inl own) possible = absurd (not_own own)
    told (Some reason) wishes before m event s run not_own (inr reply) possible = run_tells reason before event m refl refl run reply possible

    -- one more entry of the run
    one_more : (stop : Option StopReason) (wishes : List Wish) (before : List Event) (m : State) (event : Event) (s : State) →
        IsRun program settings start stop wishes before m → IsOfOne m → IsPossible program m event s → Comes program settings stop m event →
        IsRun program settings start stop (wishes ++ wishes_by 1 (event ∷ [])) (before ++ event ∷ []) s
    one_more stop wishes before m (pended client number offer ask) s run one possible comes =
        let is : client ≡ 1 = one.clients client possible.0 in
        let p : IsPossible program m (pended 1 number offer ask) s = subst (λ k. IsPossible program m (pended k number offer ask) s) is possible in
        subst (λ k. IsRun program settings start stop (wishes ++ wishes_by 1 (pended k number offer ask ∷ []))
        (before ++ pended k number offer ask ∷ []) s) (sym is)
        (run_offers wishes (record { offer = offer; ask = ask }) before number m refl refl run (settled stop m one p.0 p.1) p)
    one_more stop wishes before m (left client) s run one possible comes =
        let is : client ≡ 1 = one.clients client possible.0 in
        let p : IsPossible program m (left 1) s = subst (λ k. IsPossible program m (left k) s) is possible in
        subst (λ k. IsRun program settings start stop (wishes ++ []) (before ++ left k ∷ []) s) (sym is)
        (subst (λ z. IsRun program settings start stop z (before ++ left 1 ∷ []) s) (sym (append-nil wishes))
        (run_leaves before m refl run (settled stop m one p.0 p.1) p))
    one_more stop wishes before m (acted action tree by) s run one possible comes =
        subst (λ z. IsRun program settings start stop z (before ++ acted action tree by ∷ []) s) (sym (append-nil wishes))
        (told stop wishes before m (acted action tree by) s run (λ own. own) comes possible)
    one_more stop wishes before m (replied client number answer) s run one possible comes =
        subst (λ z. IsRun program settings start stop z (before ++ replied client number answer ∷ []) s) (sym (append-nil wishes))
        (told stop wishes before m (replied client number answer) s run (λ own. own) comes possible)
    one_more stop wishes before m (stalled names) s run one possible comes =
        subst (λ z. IsRun program settings start stop z (before ++ stalled names ∷ []) s) (sym (append-nil wishes))
        (told stop wishes before m (stalled names) s run (λ own. own) comes possible)

    -- a run goes on as its log does
    goes_on : (stop : Option StopReason) (log : List Event) (wishes : List Wish) (before : List Event) (m s : State) →
        IsRun program settings start stop wishes before m → IsOfOne m → IsLogBy program (Comes program settings stop) log m s →
        IsRun program settings start stop (wishes ++ wishes_by 1 log) (before ++ log) s
    goes_on stop [] wishes before m s run one e =
        subst (λ z. IsRun program settings start stop z (before ++ []) s) (sym (append-nil wishes))
        (subst (λ l. IsRun program settings start stop wishes l s) (sym (append-nil before))
        (subst (λ z. IsRun program settings start stop wishes before z) (sym e) run))
    goes_on stop (event ∷ log) wishes before m s run one (next, possible, comes, h) =
        let rest = goes_on stop log (wishes ++ wishes_by 1 (event ∷ [])) (before ++ event ∷ []) next s
        (one_more stop wishes before m event next run one possible comes) (stays_of_one program m event next possible one) h in
        subst (λ z. IsRun program settings start stop z (before ++ event ∷ log) s)
        (append_assoc wishes (wishes_by 1 (event ∷ [])) (wishes_by 1 log)
        ∙ ap (λ z. wishes ++ z) (sym (wishes_behind 1 (event ∷ []) log)))
        (subst (λ l. IsRun program settings start stop ((wishes ++ wishes_by 1 (event ∷ [])) ++ wishes_by 1 log) l s)
        (append_assoc before (event ∷ []) log) rest)

    -- a driven log is a run
    runs : (stop : Option StopReason) (log : List Event) (s : State) → IsOfOne start → IsDrivenLog program settings start stop log s →
        IsRun program settings start stop (wishes_by 1 log) log s
    runs None log s one h = goes_on None log [] [] start s (run_begins refl refl refl refl) one h
    runs (Some reason) log s one h =
        let first = goes_on None h.before [] [] start h.middle (run_begins refl refl refl refl) one h.by_rules in
        let stopped : IsRun program settings start (Some reason) (wishes_by 1 h.before) h.before h.middle =
        run_stops reason refl first h.is_so h.asked in
        let whole = goes_on (Some reason) h.after (wishes_by 1 h.before) h.before h.middle s stopped
        (along program (ComesByRules program settings) h.before start h.middle h.by_rules one) h.by_reason in
        subst (λ l. IsRun program settings start (Some reason) (wishes_by 1 l) l s) (sym h.parts)
        (subst (λ z. IsRun program settings start (Some reason) z (h.before ++ h.after) s) (sym (wishes_behind 1 h.before h.after)) whole)

-- at the beginning no client but 1 is open
starts_of_one : (wishes : List Wish) (client : ℕ) → Contains (numbers_from 1 (clients_for wishes)) client → client ≡ 1
starts_of_one [] client m = absurd (contains_none client m)
starts_of_one (wish ∷ wishes) client m = on_either (in_cases 1 client [] m) (λ e. sym e) (λ k. absurd (contains_none client k))

pub sessions_of_one_are_client_runs : SessionsOfOneAreClientRuns
sessions_of_one_are_client_runs program settings w of_session wishes log ending h offers =
    let start = start_state h.driven.behaviour (numbers_from 1 (clients_for wishes)) in
    let one : IsOfOne start = record { clients = starts_of_one wishes; waits = λ p m. absurd (contains_none p m) } in
    let made : wishes_by 1 log ≡ wishes = ap (map wish_in) offers ∙ wishes_of_numbered 1 1 wishes in
    record {
      behaviour = h.driven.behaviour;
      start = h.driven.start;
      stop = h.stop;
      last = h.last;
      run =
          subst (λ z. IsRun program settings start h.stop z log h.last) made
          (runs program settings w of_session start h.stop log h.last one h.driven.driven);
      settled = h.settled;
      closed = h.closed;
      ends = h.ends;
    }
