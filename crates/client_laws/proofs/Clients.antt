-- The sessions of clients.
use Rattle.std.proofs.Common.{◌≡◌, refl, sym, ap, [], Option}
use Rattle.run_settings.specs.declared.settings.Settings.{Settings}
use Rattle.spec_core.specs.Code.{Program}
use Rattle.spec_core.specs.Ready.{IsReady}
use Rattle.rule_model.specs.States.{State, start_state}
use Rattle.decision_trees.specs.Rules.{nothing}
use Rattle.candidate_laws.specs.TreeLaws.{lists_of}
use Rattle.candidate_laws.proofs.Testing.{asked_can_be_tested}
use Rattle.symbolic_composites.proofs.Answers.{exact_answers_exist}
use Rattle.board_laws.proofs.Pending.{nothing_next_nothing_pending}
use Rattle.board_offers.specs.Waiting.{waiting_in, all_have_offers}
use Rattle.log_states.specs.Clients.{numbers_from}
use Rattle.board_laws.specs.declared.stop_reason.StopReason.{StopReason}
use Rattle.board_laws.specs.Next.{IsNextOf}
use Rattle.client_laws.specs.Laws.{ClientRunsAnswerEach, ClientRunsAreDerivations}
use Rattle.client_laws.specs.Runs.{IsSettledAt, all_told, none_next, clients_for}
use Rattle.client_laws.proofs.Answered.{runs_answer_each}
use Rattle.client_laws.proofs.Derivations.{runs_are_derivations}

module _ (program : Program) (settings : Settings) (ready : IsReady program) where
  -- where nothing comes next by the rules and no client is open, nothing is pending
  none_waits : (s : State) → s.open_clients ≡ [] → IsNextOf program settings s nothing → s.pending ≡ []
  none_waits s closed next =
      let answers = exact_answers_exist program ready in
      let test = asked_can_be_tested program answers.0 next.windows answers.1 s.behaviour in
      nothing_next_nothing_pending (lists_of program answers.0 next.windows s.behaviour test.0) (waiting_in s)
      (sym (next.next answers.0 test.0 answers.1 test.1))
      (ap (λ clients. all_have_offers clients s.pending) closed)

  pub settled_waits : (stop : Option StopReason) (s : State) → s.open_clients ≡ [] → IsSettledAt program settings stop s → s.pending ≡ []
  settled_waits stop s closed (all_told reason e empty) = empty
  settled_waits stop s closed (none_next e goes next) = none_waits s closed next

pub client_runs_answer_each : ClientRunsAnswerEach
client_runs_answer_each program settings wishes log ending ready run =
    runs_answer_each program settings (start_state run.behaviour (numbers_from 1 (clients_for wishes))) run.stop wishes log run.last
    refl refl run.run (settled_waits program settings ready run.stop run.last run.closed run.settled)

pub client_runs_are_derivations : ClientRunsAreDerivations
client_runs_are_derivations program settings wishes log ending run = (
  run.behaviour,
  run.last,
  run.start,
  runs_are_derivations program settings (start_state run.behaviour (numbers_from 1 (clients_for wishes))) run.stop wishes log run.last
      run.run,
)
