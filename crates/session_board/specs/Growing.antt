-- How the list behind the lock grows. (This profile.)
use Rattle.std.specs.Prelude.{◌≡◌, ◌++◌, ◌∷◌, [], List, All, None}
use Rattle.rule_model.specs.declared.log.Entry.{Entry}
use Rattle.rule_model.specs.Events.{Event, event_of}
use Rattle.session_board.specs.declared.line.Line.{Line}
use Rattle.session_board.specs.declared.line.Line.TheVariants.{Happened}
use Rattle.session_board.specs.Lines.{maker_of}
use Rattle.session_board.specs.Shared.{SharedView, lines}

-- by lines that no seat makes, if by any
abbrev pub GrowsByNone : SharedView → SharedView → Type 0
GrowsByNone old new = (more : List Line) × (lines new ≡ lines old ++ more) × All (λ line. maker_of line ≡ None) more

-- by one entry, of this event
abbrev pub GrowsByOne : SharedView → SharedView → Event → Type 0
GrowsByOne old new event = (entry : Entry) × (lines new ≡ lines old ++ Happened entry ∷ []) × (event_of entry ≡ event)
