-- Runs of one client are driven.
use Rattle.std.proofs.Common.{◌≡◌, sym, subst, List, [], ◌∷◌, ◌++◌, Option, Some, None, inr}
use Rattle.run_settings.specs.declared.settings.Settings.{Settings}
use Rattle.spec_core.specs.Code.{Program}
use Rattle.rule_model.specs.Events.{Event, pended, left}
use Rattle.rule_model.specs.Legal.{IsPossible}
use Rattle.rule_model.specs.Wishes.{Wish}
use Rattle.rule_model.specs.States.{State, start_state}
use Rattle.log_states.specs.Clients.{numbers_from}
use Rattle.board_laws.specs.declared.stop_reason.StopReason.{StopReason}
use Rattle.client_laws.specs.Runs.{IsRun, run_begins, run_offers, run_leaves, run_goes_on, run_stops, run_tells, clients_for}
use Rattle.session_laws.specs.Laws.{ClientRunsAreSessions, RunsAreDriven}
use Rattle.session_laws.specs.Logs.{IsOfClient, IsDrivenLog}
use Rattle.session_laws.proofs.Driven.{Comes, goes_on, by_client, stops}

module _ (program : Program) (settings : Settings) (start : State) where
  -- of the log and the stop by other names
  named : (stop other : Option StopReason) (log before : List Event) (event : Event) (s : State) → stop ≡ other →
      log ≡ before ++ event ∷ [] → IsDrivenLog program settings start other (before ++ event ∷ []) s →
      IsDrivenLog program settings start stop log s
  named stop other log before event s a e h =
      subst (λ l. IsDrivenLog program settings start stop l s) (sym e)
      (subst (λ z. IsDrivenLog program settings start z (before ++ event ∷ []) s) (sym a) h)

  same_stop : (stop other : Option StopReason) (log : List Event) (s : State) → stop ≡ other →
      IsDrivenLog program settings start stop log s → IsDrivenLog program settings start other log s
  same_stop stop other log s a h = subst (λ z. IsDrivenLog program settings start z log s) a h

  own : (stop : Option StopReason) (log before : List Event) (event : Event) (m s : State) → log ≡ before ++ event ∷ [] →
      IsDrivenLog program settings start stop before m → IsPossible program m event s → IsOfClient event →
      IsDrivenLog program settings start stop log s
  own stop log before event m s e h possible is =
      subst (λ l. IsDrivenLog program settings start stop l s) (sym e) (by_client program settings start stop before event m s h possible is)

  pub driven : (stop : Option StopReason) (wishes : List Wish) (log : List Event) (s : State) →
      IsRun program settings start stop wishes log s → IsDrivenLog program settings start stop log s
  driven stop wishes log s (run_begins a b e f) =
      subst (λ z. IsDrivenLog program settings start z log s) (sym a)
      (subst (λ l. IsDrivenLog program settings start None l s) (sym e) f)
  driven stop wishes log s (run_offers made wish before number m w e run settled possible) =
      own stop log before (pended 1 number wish.offer wish.ask) m s e (driven stop made before m run) possible tt
  driven stop wishes log s (run_leaves before m e run settled possible) =
      own stop log before (left 1) m s e (driven stop wishes before m run) possible tt
  driven stop wishes log s (run_goes_on before event m a e run next possible) =
      named stop None log before event s a e
      (goes_on program settings start None before event m s (same_stop stop None before m a (driven stop wishes before m run)) possible
      (inr next))
  driven stop wishes log s (run_stops reason a run is_so asked) =
      subst (λ z. IsDrivenLog program settings start z log s) (sym a)
      (stops program settings start log s reason (driven None wishes log s run) is_so asked)
  driven stop wishes log s (run_tells reason before event m a e run told possible) =
      named stop (Some reason) log before event s a e
      (goes_on program settings start (Some reason) before event m s
      (same_stop stop (Some reason) before m a (driven stop wishes before m run)) possible (inr told))

pub runs_are_driven : RunsAreDriven
runs_are_driven program settings start stop wishes log s run = driven program settings start stop wishes log s run

pub client_runs_are_sessions : ClientRunsAreSessions
client_runs_are_sessions program settings wishes log ending run = record {
  stop = run.stop;
  last = run.last;
  driven = record {
    behaviour = run.behaviour;
    start = run.start;
    driven =
        driven program settings (start_state run.behaviour (numbers_from 1 (clients_for wishes))) run.stop wishes log run.last run.run;
  };
  settled = run.settled;
  closed = run.closed;
  ends = run.ends;
}
