-- The log of a board stays driven. (This profile.)
use Rattle.rule_model.specs.States.{State}
use Rattle.board_core.specs.Views.{BoardView, program, events, state}
use Rattle.session_laws.specs.Logs.{IsDrivenLog}

-- where the log was driven from a state on, to the state that is reached, it is so still
abbrev pub StaysDriven : BoardView → BoardView → Type 0
StaysDriven old new =
    (start : State) →
    IsDrivenLog (program old) old.settings start old.stop (events old) (state old) →
    IsDrivenLog (program new) new.settings start new.stop (events new) (state new)
