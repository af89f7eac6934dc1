-- Sessions of any number of clients are complete. (This profile.)
use Rattle.std.specs.Prelude.{ℕ, ◌≡◌, ◌⊎◌, List}
use Rattle.run_settings.specs.declared.settings.Settings.{Settings}
use Rattle.spec_core.specs.Code.{Program}
use Rattle.rule_model.specs.Behaviours.{Behaviour}
use Rattle.rule_model.specs.Code.{IsStart}
use Rattle.rule_model.specs.Events.{Event, Ending}
use Rattle.rule_model.specs.States.{start_state}
use Rattle.board_laws.specs.declared.stop_reason.StopReason.{StopReason}
use Rattle.board_laws.specs.Stopping.{ending_by}
use Rattle.log_states.specs.Clients.{numbers_from}
use Rattle.client_laws.specs.Justified.{IsUnstopped, StopsFor}
use Rattle.session_laws.specs.Sessions.{IsWholeSession}

-- On the way of the log, from the specification's behaviour on with all clients open, a reason to stop is so: a term that is asked is
-- over the budget, or its evaluation meets a value that is too large, or a limit is passed; and the session ends by this reason.
pub record EndsByReason (program : Program) (settings : Settings) (clients : ℕ) (log : List Event) (ending : Ending) : Type 0 where
  pub behaviour : Behaviour
  pub start : IsStart program behaviour
  pub reason : StopReason
  pub stops : StopsFor program settings log (start_state behaviour (numbers_from 1 clients)) reason
  pub ends : ending ≡ ending_by reason

-- a whole session isn't stopped: it goes on to its end by the rules, unless a reason to stop is so on its way
abbrev pub WholeSessionsAreComplete : Type 0
WholeSessionsAreComplete =
    (program : Program) (settings : Settings) (clients : ℕ) (log : List Event) (ending : Ending) →
    IsWholeSession program settings clients log ending →
    IsUnstopped ending ⊎ EndsByReason program settings clients log ending
