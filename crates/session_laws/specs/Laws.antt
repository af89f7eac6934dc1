-- What follows from the definitions.
use Rattle.std.specs.Prelude.{ℕ, ◌≡◌, ◌++◌, List, Option, map}
use Rattle.run_settings.specs.declared.settings.Settings.{Settings}
use Rattle.spec_core.specs.Code.{Program}
use Rattle.spec_core.specs.Ready.{IsReady}
use Rattle.rule_model.specs.Answering.{name_of}
use Rattle.rule_model.specs.Behaviours.{Behaviour}
use Rattle.rule_model.specs.Code.{IsStart}
use Rattle.rule_model.specs.Events.{Event, Ending}
use Rattle.rule_model.specs.Legal.{IsDerivation}
use Rattle.rule_model.specs.Wishes.{Wish}
use Rattle.rule_model.specs.States.{State, start_state}
use Rattle.board_laws.specs.declared.stop_reason.StopReason.{StopReason}
use Rattle.log_states.specs.Clients.{numbers_from}
use Rattle.client_laws.specs.Runs.{IsRun, IsClientRun, clients_for}
use Rattle.session_laws.specs.Answers.{answered_to, of_client, offers_by}
use Rattle.session_laws.specs.Logs.{IsDrivenLog}
use Rattle.session_laws.specs.Sessions.{IsDriven, IsLegal, IsWholeSession}

-- a driven log is a derivation from the specification's behaviour on, with all clients open
abbrev pub DrivenLogsAreDerivations : Type 0
DrivenLogsAreDerivations =
    (program : Program) (settings : Settings) (clients : ℕ) (stop : Option StopReason) (log : List Event) (s : State) →
    IsDriven program settings clients stop log s →
    (behaviour : Behaviour) × IsStart program behaviour × IsDerivation program log (start_state behaviour (numbers_from 1 clients)) s

-- A driven log of a specification that is ready is legal: each entry is possible and justified, and what stops the session is so.
abbrev pub DrivenLogsAreLegal : Type 0
DrivenLogsAreLegal =
    (program : Program) (settings : Settings) (clients : ℕ) (stop : Option StopReason) (log : List Event) (s : State) →
    IsReady program →
    IsDriven program settings clients stop log s →
    IsLegal program settings clients stop log s

-- the log of each run of one client, or of none, is driven
abbrev pub RunsAreDriven : Type 0
RunsAreDriven =
    (program : Program) (settings : Settings) (start : State) (stop : Option StopReason) (wishes : List Wish) (log : List Event)
    (s : State) →
    IsRun program settings start stop wishes log s →
    IsDrivenLog program settings start stop log s

-- The session of one client, or of none, is a whole session of so many clients: what is told of sessions of any number of clients is told
-- of it.
abbrev pub ClientRunsAreSessions : Type 0
ClientRunsAreSessions =
    (program : Program) (settings : Settings) (wishes : List Wish) (log : List Event) (ending : Ending) →
    IsClientRun program settings wishes log ending →
    IsWholeSession program settings (clients_for wishes) log ending

-- In a driven log the offers of each client are answered in order, each at most once: those that aren't answered yet are pending.
abbrev pub DrivenLogsAnswerClients : Type 0
DrivenLogsAnswerClients =
    (program : Program) (settings : Settings) (clients : ℕ) (stop : Option StopReason) (log : List Event) (s : State) →
    IsDriven program settings clients stop log s →
    (client : ℕ) →
    answered_to client log ++ map name_of (of_client client s.pending) ≡ map name_of (offers_by client log)
