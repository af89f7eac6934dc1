-- The log of a session has a trace, and this is replayed.
use Rattle.std.proofs.Common.{ℕ, zero, suc, ◌+◌, ◌≡◌, ◌<◌, ◌≤◌, ◌^◌, ◌⊎◌, sym, subst, List, arith, length}
use Rattle.std.proofs.Common.{inl, inr, Option, Some, Contains}
use Rattle.spec_core.specs.Code.{Program}
use Rattle.spec_core.specs.Lists.{Each, IsOneOf}
use Rattle.spec_core.specs.Ready.{IsReady}
use Rattle.run_settings.specs.declared.settings.Settings.{Settings}
use Rattle.spec_core.proofs.Members.{contains_none}
use Rattle.log_check.specs.Starting.{greatest_in}
use Rattle.log_states.specs.Clients.{numbers_from}
use Rattle.log_states.proofs.Members.{in_cases}
use Rattle.rule_model.specs.Answering.{offers_in}
use Rattle.rule_model.specs.Behaviours.{Behaviour}
use Rattle.rule_model.specs.Code.{IsStart}
use Rattle.rule_model.specs.Events.{Event, Ending, deadlocked, ends_at_limit, ends_beyond, ends_spent, ends_too_large, exits, waiting}
use Rattle.rule_model.specs.Legal.{IsDerivation}
use Rattle.rule_model.specs.States.{PendingOffer, State, start_state}
use Rattle.rule_model.specs.Wishes.{Wish}
use Rattle.rule_gates.proofs.Acting.{actions_are_at_gates_of_the_heading}
use Rattle.rule_sorts.specs.Fitting.{HasFewGates}
use Rattle.rule_sorts.proofs.Reached.{reached_behaviours_fit}
use Rattle.board_laws.specs.declared.stop_reason.StopReason.{StopReason}
use Rattle.board_laws.specs.declared.stop_reason.StopReason.TheVariants.{Limit, Spent, TooLarge}
use Rattle.board_laws.specs.Stopping.{ending_by}
use Rattle.board_laws.specs.Reasons.{IsReasonToStop}
use Rattle.client_laws.specs.Ends.{IsEndOfTrees, IsEndingOf, ends_by_exit, ends_by_reason, ends_by_trees}
use Rattle.client_laws.proofs.Justified.{justified_logs_are_derivations}
use Rattle.session_laws.proofs.Legal.{driven_logs_are_legal}
use Rattle.session_laws.specs.Sessions.{IsLegal, IsWholeSession}
use Rattle.script_offers.specs.Valued.{AreValued}
use Rattle.script_text.specs.Scripts.{WishFits}
use Rattle.script_text.specs.Wishes.{Wished}
use Rattle.script_text.proofs.OneScript.{script_few, script_fits}
use Rattle.trace_text.specs.Fits.{EndingFits, HasTrace}
use Rattle.command_run.specs.Runs.{IsSessionOf}
use Rattle.session_traces.specs.Laws.{ScriptsHaveTraces, SessionsHaveTraces}
use Rattle.session_traces.proofs.Asked.{asked_next}
use Rattle.session_traces.proofs.Few.{script_short}
use Rattle.session_traces.proofs.Logs.{IsAmong, Keeps, ReasonFits, counted, log_among, log_fits}
use Rattle.session_traces.proofs.Wished.{IsFit, of_clients, same_length, valued_clients}

-- the numbers of so many clients
among_numbers : (count first c : ℕ) → Contains (numbers_from first count) c → (first ≤ c) × (c < first + count)
among_numbers zero first c m = absurd (contains_none c m)
among_numbers (suc count) first c m =
    by_place (in_cases first c (numbers_from (first + 1) count) m) (among_numbers count (first + 1) c)
  where
    by_place : (first ≡ c) ⊎ Contains (numbers_from (first + 1) count) c →
        (Contains (numbers_from (first + 1) count) c → (first + 1 ≤ c) × (c < first + 1 + count)) → (first ≤ c) × (c < first + suc count)
    by_place (inl e) later = (omega (arith, e), omega (arith, e))
    by_place (inr k) later =
        let r = later k in
        let low = r.0 in
        let high = r.1 in
        (omega (arith, low), omega (arith, high))

module _ (program : Program) (settings : Settings) (ready : IsReady program) (few : HasFewGates program) where
  reason_fits : (s : State) (start : Behaviour) (clients : List ℕ) (before : List Event) → IsStart program start →
      IsDerivation program before (start_state start clients) s → (reason : StopReason) → IsReasonToStop program settings s reason →
      ReasonFits program.theory reason
  reason_fits s start clients before is leads (Spent t) h =
      asked_next program ready few settings s _ (reached_behaviours_fit program ready few start is clients before s leads) h.0
  reason_fits s start clients before is leads (TooLarge t) h =
      asked_next program ready few settings s _ (reached_behaviours_fit program ready few start is clients before s leads) h.0
  reason_fits s start clients before is leads (Limit kind) h = tt

  of_reason : (reason : StopReason) → ReasonFits program.theory reason → EndingFits program (ending_by reason)
  of_reason (Spent t) h = h
  of_reason (TooLarge t) h = h
  of_reason (Limit kind) h = tt

  of_trees : (s : State) (ending : Ending) → IsEndOfTrees program settings s ending → EndingFits program ending
  of_trees s exits h = tt
  of_trees s deadlocked h = tt
  of_trees s waiting h = tt
  of_trees s ends_beyond h = tt
  of_trees s (ends_spent t) h = absurd h
  of_trees s (ends_too_large t) h = absurd h
  of_trees s (ends_at_limit kind) h = tt

  ending_fits : (s : State) (stop : Option StopReason) (ending : Ending) →
      ((reason : StopReason) → stop ≡ Some reason → ReasonFits program.theory reason) → IsEndingOf program settings s stop ending →
      EndingFits program ending
  ending_fits s stop ending fits (ends_by_reason reason e f) = subst (EndingFits program) (sym f) (of_reason reason (fits reason e))
  ending_fits s stop ending fits (ends_by_exit e f g) = subst (EndingFits program) (sym g) tt
  ending_fits s stop ending fits (ends_by_trees e f g) = of_trees s ending g

  module _ (clients : List (List Wished)) (log : List Event) (ending : Ending) (at_most : length clients ≤ 64)
      (short : Each (λ (wishes : List Wished). length wishes < 2 ^ 64) clients) (fit : Each (Each (WishFits program)) clients)
      (session : IsSessionOf program settings clients log ending) where
    abbrev offers : List (List Wish)
    offers = session.offers

    abbrev pub count : ℕ
    count = length offers

    same_count : length clients ≡ length offers
    same_count = same_length (AreValued program.theory) clients offers session.valued

    few_clients : count ≤ 64
    few_clients = let e = same_count in let h = at_most in subst (λ (z : ℕ). z ≤ 64) e h

    abbrev pub whole : IsWholeSession program settings count log ending
    whole = session.session.whole

    abbrev pub legal : IsLegal program settings count whole.stop log whole.last
    legal = driven_logs_are_legal program settings count whole.stop log whole.last ready whole.driven

    abbrev pub behaviour : Behaviour
    behaviour = legal.behaviour

    abbrev pub begins : State
    begins = start_state behaviour (numbers_from 1 count)

    reasons : (reason : StopReason) → whole.stop ≡ Some reason → ReasonFits program.theory reason
    reasons reason e =
        let s = legal.stops reason e in
        reason_fits s.middle behaviour (numbers_from 1 count) s.before legal.start s.leads reason s.is_so

    keeps : Keeps count begins
    keeps = record {
      opened = λ c m.
          let r = among_numbers count 1 c m in
          let high = r.1 in
          (r.0, omega (arith, high));
      pending = λ p m. absurd (contains_none p m);
    }

    offers_fit : (p : PendingOffer) → IsOneOf p (offers_in log) → IsAmong count p.client → IsFit program p
    offers_fit p i among =
        let high = among.1 in
        of_clients program 1 offers log session.session.answered
        (valued_clients program clients offers session.valued short fit) p i among.0
        (omega (arith, high))

    pub derivation : IsDerivation program log begins whole.last
    derivation = justified_logs_are_derivations program settings whole.stop log begins whole.last legal.justified

    pub has_trace : HasTrace program log ending
    has_trace = record {
      events =
          log_fits program count few_clients ready few actions_are_at_gates_of_the_heading reached_behaviours_fit behaviour legal.start
          (numbers_from 1 count) settings whole.stop reasons log whole.last legal.justified offers_fit keeps;
      last = ending_fits whole.last whole.stop ending reasons whole.ends;
      counted =
          counted program log begins whole.last derivation;
    }

    pub all_among : Each (λ (e : Event). greatest_in e ≤ count) log
    all_among =
        log_among program count few_clients ready few actions_are_at_gates_of_the_heading reached_behaviours_fit behaviour legal.start
        (numbers_from 1 count) settings whole.stop reasons log whole.last legal.justified offers_fit keeps

pub sessions_have_traces : SessionsHaveTraces
sessions_have_traces program settings clients log ending ready few at_most short fit session =
    has_trace program settings ready few clients log ending at_most short fit session

pub scripts_have_traces : ScriptsHaveTraces
scripts_have_traces program settings script log end ready few h =
    has_trace program settings ready few h.clients _ _ (script_few program script h.clients h.spelled)
    (script_short program script h.clients h.spelled) (script_fits program script h.clients h.spelled) h.come
