-- Runs of boards.
use Rattle.std.specs.Prelude.{ℕ, ◌≡◌, List, [], Option}
use Rattle.run_settings.specs.declared.settings.Settings.{Settings}
use Rattle.spec_core.specs.Code.{Program}
use Rattle.rule_model.specs.Behaviours.{Behaviour}
use Rattle.rule_model.specs.Code.{IsStart}
use Rattle.rule_model.specs.Events.{Ending, Event}
use Rattle.rule_model.specs.Wishes.{Wish}
use Rattle.rule_model.specs.States.{State, start_state}
use Rattle.board_laws.specs.declared.stop_reason.StopReason.{StopReason}
use Rattle.log_states.specs.Clients.{numbers_from}
use Rattle.client_laws.specs.Ends.{IsEndingOf}
use Rattle.client_laws.specs.Runs.{IsRun, IsSettledAt}
pub use Rattle.board_work.specs.Settling.{IsSettledOn}
use Rattle.board_core.specs.Views as views
use Rattle.board_core.specs.Views.{BoardView}

-- the run of a board
abbrev pub IsRunOn : State → List Wish → BoardView → Type 0
IsRunOn start wishes v = IsRun (views.program v) v.settings start v.stop wishes (views.events v) (views.state v)

-- each run that led to the first board leads on to the second
abbrev pub Continues : BoardView → BoardView → Type 0
Continues old new = (start : State) (wishes : List Wish) → IsRunOn start wishes old → IsRunOn start wishes new

-- the session of a board has begun, with so many clients
pub record HasBegun (clients : ℕ) (v : BoardView) : Type 0 where
  pub behaviour : Behaviour
  pub start : IsStart (views.program v) behaviour
  pub run : IsRunOn (start_state behaviour (numbers_from 1 clients)) [] v
  pub all_open : (views.state v).open_clients ≡ numbers_from 1 clients

-- a run up to where no client is open and nothing is left to be done, and how it ends
pub record IsEndedRun (program : Program) (settings : Settings) (start : State) (wishes : List Wish) (log : List Event) (ending : Ending) :
    Type 0 where
  pub stop : Option StopReason
  pub last : State
  pub run : IsRun program settings start stop wishes log last
  pub settled : IsSettledAt program settings stop last
  pub closed : last.open_clients ≡ []
  pub ends : IsEndingOf program settings last stop ending
