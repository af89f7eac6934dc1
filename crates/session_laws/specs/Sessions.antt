-- Sessions of any number of clients. (This profile.)
use Rattle.std.specs.Prelude.{ℕ, ◌≡◌, [], List, Option, Some}
use Rattle.run_settings.specs.declared.settings.Settings.{Settings}
use Rattle.spec_core.specs.Code.{Program}
use Rattle.rule_model.specs.Behaviours.{Behaviour}
use Rattle.rule_model.specs.Code.{IsStart}
use Rattle.rule_model.specs.Events.{Event, Ending}
use Rattle.rule_model.specs.States.{State, start_state}
use Rattle.board_laws.specs.declared.stop_reason.StopReason.{StopReason}
use Rattle.log_states.specs.Clients.{numbers_from}
use Rattle.client_laws.specs.Ends.{IsEndingOf}
use Rattle.client_laws.specs.Justified.{IsJustifiedLog, StopsFor}
use Rattle.client_laws.specs.Runs.{IsSettledAt}
use Rattle.session_laws.specs.Logs.{IsDrivenLog}

module _ (program : Program) (settings : Settings) (clients : ℕ) where
  -- The log of a session of so many clients, whose numbers begin with 1: it is driven from the specification's behaviour on, with all of
  -- them open, to this state; and the reason that has stopped the session, if one has.
  pub record IsDriven (stop : Option StopReason) (log : List Event) (s : State) : Type 0 where
    pub behaviour : Behaviour
    pub start : IsStart program behaviour
    pub driven : IsDrivenLog program settings (start_state behaviour (numbers_from 1 clients)) stop log s

  -- The log is legal: from the specification's behaviour on each entry is possible, and what the session itself tells is justified by the
  -- steps of the behaviour that is reached; and what stops the session is so where it stops.
  pub record IsLegal (stop : Option StopReason) (log : List Event) (s : State) : Type 0 where
    pub behaviour : Behaviour
    pub start : IsStart program behaviour
    pub justified : IsJustifiedLog program settings stop log (start_state behaviour (numbers_from 1 clients)) s
    pub stops : (reason : StopReason) → stop ≡ Some reason → StopsFor program settings log (start_state behaviour (numbers_from 1 clients)) reason

  -- A whole session: its log is driven up to where no client is open and nothing is left to be done; and how it ends.
  pub record IsWholeSession (log : List Event) (ending : Ending) : Type 0 where
    pub stop : Option StopReason
    pub last : State
    pub driven : IsDriven stop log last
    pub settled : IsSettledAt program settings stop last
    pub closed : last.open_clients ≡ []
    pub ends : IsEndingOf program settings last stop ending
