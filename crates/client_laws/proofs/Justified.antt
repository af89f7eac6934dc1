-- Why the entries of a run are given.
use Rattle.std.proofs.Common.{ℕ, ◌≡◌, ◌∙◌, refl, sym, ap, subst, List, [], ◌∷◌, ◌++◌, Option, Some, None, true, if◌then◌else◌, inl, inr}
use Rattle.run_settings.specs.declared.settings.Settings.{Settings}
use Rattle.spec_core.specs.Code.{Program}
use Rattle.spec_core.specs.Lists.{IsOneOf}
use Rattle.spec_core.specs.Ready.{IsReady}
use Rattle.spec_core.proofs.Members.{one_contained}
use Rattle.rule_model.specs.Derivations.{Derivation}
use Rattle.rule_model.specs.Events.{Event, pended, replied, left}
use Rattle.rule_model.specs.Legal.{IsPossible}
use Rattle.rule_model.specs.Wishes.{Wish}
use Rattle.rule_model.specs.States.{PendingOffer, State, start_state}
use Rattle.symbolic_rules.specs.Windows.{Windows, AreWindows}
use Rattle.decision_trees.specs.Rules.{Next, takes, deadlocks, is_beyond, is_not_now, goes_on, stalls, nothing}
use Rattle.candidate_laws.specs.TreeLaws.{EntryHolds}
use Rattle.candidate_laws.proofs.TreeEntries.{next_entries_hold}
use Rattle.candidate_laws.proofs.Testing.{asked_can_be_tested}
use Rattle.symbolic_composites.proofs.Answers.{exact_answers_exist}
use Rattle.log_states.specs.Clients.{numbers_from}
use Rattle.log_states.proofs.Tests.{by_cases, on_either}
use Rattle.board_offers.specs.Waiting.{by_client, only_asks, waiting_in}
use Rattle.board_offers.proofs.AllWait.{all_wait_is_decided}
use Rattle.board_offers.proofs.Members.{in_asks, in_by_client}
use Rattle.board_offers.proofs.Sound.{waiting_is_sound}
use Rattle.board_laws.specs.declared.stop_reason.StopReason.{StopReason}
use Rattle.board_laws.specs.declared.stop_reason.StopReason.TheVariants.{Spent, TooLarge, Limit}
use Rattle.board_laws.specs.Next.{IsNextEvent, next_ended, next_by_rules, IsNextOf, IsEventOf, IsStopReply}
use Rattle.board_laws.specs.Stopping.{answer_by}
use Rattle.client_laws.specs.Justified.{IsJustified, IsJustifiedLog}
use Rattle.client_laws.specs.Laws.{NextEventsHold, RunsAreJustified, JustifiedLogsAreDerivations, ClientRunsAreLegal}
use Rattle.client_laws.specs.Runs.{IsRun, run_begins, run_offers, run_leaves, run_goes_on, run_stops, run_tells, clients_for}
use Rattle.client_laws.proofs.Clients.{settled_waits}
use Rattle.client_laws.proofs.Stopped.{runs_stop_for_reasons}

-- what is among those that only ask does so
only_ask : (ps : List PendingOffer) (p : PendingOffer) → IsOneOf p (only_asks ps) → p.ask ≡ true
only_ask [] p h = absurd h
only_ask (q ∷ ps) p h = by_cases q.ask
    (λ e. on_either (subst (λ zs. IsOneOf p zs) (ap (λ b. if b then q ∷ only_asks ps else only_asks ps) e) h)
    (λ f. ap (λ z. z.ask) f ∙ e)
    (λ k. only_ask ps p k))
    (λ e. only_ask ps p (subst (λ zs. IsOneOf p zs) (ap (λ b. if b then q ∷ only_asks ps else only_asks ps) e) h))

module _ (program : Program) (settings : Settings) where
  -- what an entry says justifies its event
  entry_justifies : (s : State) (stop : Option StopReason) (w : Windows) → AreWindows program.theory settings.values w →
      (entry : Next PendingOffer Derivation) (event : Event) → IsEventOf program settings s entry event →
      EntryHolds program w s.behaviour (waiting_in s) entry → IsJustified program settings s stop event
  entry_justifies s stop w sized (takes p d) event (some, a, e) holds = subst (IsJustified program settings s stop) (sym e) tt
  entry_justifies s stop w sized deadlocks event (p, least, e) holds = subst (IsJustified program settings s stop) (sym e) holds
  entry_justifies s stop w sized (is_beyond p d) event e holds = subst (IsJustified program settings s stop) (sym e) (record {
    waits = p;
    named = refl;
    windows = w;
    sized = sized;
    holds = holds;
  })
  entry_justifies s stop w sized (is_not_now p) event e holds = subst (IsJustified program settings s stop) (sym e) (record {
    waits = p;
    named = refl;
    pending = in_by_client s.pending p (in_asks (by_client s.pending) p holds.asks);
    asks = only_ask (by_client s.pending) p holds.asks;
    never = holds.never;
  })
  entry_justifies s stop w sized (goes_on trees) event (some, d, at, a, e) holds =
      subst (IsJustified program settings s stop) (sym e) ((all_wait_is_decided s).0 holds.waits)
  entry_justifies s stop w sized stalls event e holds =
      subst (IsJustified program settings s stop) (sym e)
      ((all_wait_is_decided s).0 holds.waits, holds.unseen, λ p k. holds.never p (one_contained p s.pending k))
  entry_justifies s stop w sized nothing event e holds = absurd e

  -- a reason that has stopped the session justifies the reply that gives it
  reason_justifies : (s : State) (stop : Option StopReason) (client number : ℕ) (reason : StopReason) → stop ≡ Some reason →
      IsJustified program settings s stop (replied client number (answer_by s.actions reason))
  reason_justifies s stop client number (Spent term) h = (Spent term, h, refl)
  reason_justifies s stop client number (TooLarge term) h = (TooLarge term, h, refl)
  reason_justifies s stop client number (Limit kind) h = (Limit kind, h, refl)

  pub stop_justifies : (s : State) (stop : Option StopReason) (reason : StopReason) (event : Event) → stop ≡ Some reason →
      IsStopReply s reason event → IsJustified program settings s stop event
  stop_justifies s stop reason event h (p, least, e) =
      subst (IsJustified program settings s stop) (sym e) (reason_justifies s stop p.client p.number reason h)

  further : (stop : Option StopReason) (xs : List Event) (event : Event) (s t u : State) → IsJustifiedLog program settings stop xs s t →
      IsPossible program t event u → IsJustified program settings t stop event →
      IsJustifiedLog program settings stop (xs ++ event ∷ []) s u
  further stop [] event s t u h possible justified =
      (u, subst (λ z. IsPossible program z event u) h possible, subst (λ z. IsJustified program settings z stop event) h justified, refl)
  further stop (x ∷ xs) event s t u (next, p, j, h) possible justified =
      (next, p, j, further stop xs event next t u h possible justified)

  module _ (ready : IsReady program) where
    entry_holds : (s : State) (entry : Next PendingOffer Derivation) (next : IsNextOf program settings s entry) →
        EntryHolds program next.windows s.behaviour (waiting_in s) entry
    entry_holds s entry next =
        let answers = exact_answers_exist program ready in
        let test = asked_can_be_tested program answers.0 next.windows answers.1 s.behaviour in
        subst (EntryHolds program next.windows s.behaviour (waiting_in s)) (sym (next.next answers.0 test.0 answers.1 test.1))
        (next_entries_hold program answers.0 settings.values next.windows s.behaviour test.0
        (record { ready = ready; exact = answers.1; windows = next.of_session.sized; tests = test.1 }) (waiting_in s) (waiting_is_sound s))

    pub next_justifies : (s : State) (stop : Option StopReason) (event : Event) → IsNextEvent program settings s event →
        IsJustified program settings s stop event
    next_justifies s stop event (next_ended p ended least e) = subst (IsJustified program settings s stop) (sym e) ended
    next_justifies s stop event (next_by_rules entry goes next comes) =
        entry_justifies s stop next.windows next.of_session.sized entry event comes (entry_holds s entry next)

    module _ (start : State) (final : Option StopReason) where
      one_more : (log before : List Event) (event : Event) (m s : State) → log ≡ before ++ event ∷ [] →
          IsJustifiedLog program settings final before start m → IsPossible program m event s →
          IsJustified program settings m final event → IsJustifiedLog program settings final log start s
      one_more log before event m s e justified possible reason =
          subst (λ z. IsJustifiedLog program settings final z start s) (sym e)
          (further final before event start m s justified possible reason)

      -- the reason that has stopped the run, if there is one, is the one that stops it in the end
      run_justified : (stop : Option StopReason) (wishes : List Wish) (log : List Event) (s : State) →
          ((reason : StopReason) → stop ≡ Some reason → final ≡ Some reason) → IsRun program settings start stop wishes log s →
          IsJustifiedLog program settings final log start s
      run_justified stop wishes log s stays (run_begins a b e f) =
          subst (λ z. IsJustifiedLog program settings final z start s) (sym e) f
      run_justified stop wishes log s stays (run_offers made wish before number m w e run settled possible) =
          one_more log before (pended 1 number wish.offer wish.ask) m s e (run_justified stop made before m stays run) possible tt
      run_justified stop wishes log s stays (run_leaves before m e run settled possible) =
          one_more log before (left 1) m s e (run_justified stop wishes before m stays run) possible tt
      run_justified stop wishes log s stays (run_goes_on before event m a e run next possible) =
          one_more log before event m s e (run_justified stop wishes before m stays run) possible (next_justifies m final event next)
      run_justified stop wishes log s stays (run_stops reason a run is_so asked) =
          run_justified None wishes log s (λ r e. let no : ⊥ = cc in absurd no) run
      run_justified stop wishes log s stays (run_tells reason before event m a e run told possible) =
          one_more log before event m s e (run_justified stop wishes before m stays run) possible
          (stop_justifies m final reason event (stays reason a) told)

pub next_events_hold : NextEventsHold
next_events_hold program settings s event ready (next_ended p ended least e) = inl (p, ended, least, e)
next_events_hold program settings s event ready (next_by_rules entry goes next comes) = inr (record {
  goes = goes;
  entry = entry;
  windows = next.windows;
  sized = next.of_session.sized;
  comes = comes;
  holds = entry_holds program settings ready s entry next;
})

pub runs_are_justified : RunsAreJustified
runs_are_justified program settings start stop wishes log s ready run =
    run_justified program settings ready start stop stop wishes log s (λ reason e. e) run

pub justified_logs_are_derivations : JustifiedLogsAreDerivations
justified_logs_are_derivations program settings stop [] s t e = e
justified_logs_are_derivations program settings stop (event ∷ log) s t (next, possible, justified, h) =
    (next, possible, justified_logs_are_derivations program settings stop log next t h)

pub client_runs_are_legal : ClientRunsAreLegal
client_runs_are_legal program settings wishes log ending ready run = record {
  behaviour = run.behaviour;
  start = run.start;
  stop = run.stop;
  last = run.last;
  entries = runs_are_justified program settings (start_state run.behaviour (numbers_from 1 (clients_for wishes))) run.stop wishes log
      run.last ready run.run;
  stops = λ reason e. runs_stop_for_reasons program settings (start_state run.behaviour (numbers_from 1 (clients_for wishes))) run.stop
      wishes log run.last run.run reason e;
  closed = run.closed;
  answered = settled_waits program settings ready run.stop run.last run.closed run.settled;
  ends = run.ends;
}
