-- How a session ends. (This profile.)
use Rattle.std.specs.Prelude.{Option, Some, None}
use Rattle.rule_model.specs.declared.action.Action.{Action}
use Rattle.rule_model.specs.declared.action.Action.TheVariants.{Inner, Exit, At}
use Rattle.rule_model.specs.Derivations.{Derivation}
use Rattle.rule_model.specs.Events.{Ending, exits, deadlocked, waiting, ends_beyond}
use Rattle.decision_trees.specs.Rules.{any, any_beyond}
use Rattle.board_laws.specs.declared.stop_reason.StopReason.{StopReason}
use Rattle.board_laws.specs.Stopping.{ending_by}
use Rattle.board_core.specs.Views.{BoardView, first_at, state}

-- where no windowed tree exists: beyond, where there is a tree with marks, else a deadlock; given is what is known of the first such tree
abbrev pub end_beyond : Option (Option Derivation) → Option Ending
end_beyond None = None
end_beyond (Some None) = Some deadlocked
end_beyond (Some (Some d)) = Some ends_beyond

-- waiting, where a windowed tree exists
abbrev pub end_found : Option (Option Derivation) → Option (Option Derivation) → Option Ending
end_found None beyond = None
end_found (Some None) beyond = end_beyond beyond
end_found (Some (Some d)) beyond = Some waiting

-- after the termination the session has ended
abbrev pub end_after : Option Action → Option Ending → Option Ending
end_after None found = found
end_after (Some Inner) found = found
end_after (Some (Exit values)) found = Some exits
end_after (Some (At gate values)) found = found

-- what has stopped the session comes first
abbrev pub end_unless : Option StopReason → Option Ending → Option Ending
end_unless None found = found
end_unless (Some reason) found = Some (ending_by reason)

-- how the session of a board ends, as far as what is known decides it
abbrev pub ending_at : BoardView → Option Ending
ending_at v = end_unless v.stop (end_after (state v).last (end_found (first_at v any) (first_at v any_beyond)))
