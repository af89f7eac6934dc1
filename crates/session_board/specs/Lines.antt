-- The list behind the lock of a session: what happened, in order, and behind it a mark, once a turn met want of memory. (This profile.)
use Rattle.std.specs.Prelude.{ℕ, ◌-◌, ◌≤◌, ◌++◌, Contains, [], ◌∷◌, List, map, Option, Some, None, Bool, if◌then◌else◌}
use Rattle.rule_model.specs.declared.log.Entry.{Entry}
use Rattle.rule_model.specs.Events.{Event, event_of, pended, acted, replied, stalled, left}
use Rattle.board_record.specs.Answered.{actions_with}
use Rattle.session_board.specs.declared.line.Line.{Line}
use Rattle.session_board.specs.declared.line.Line.TheVariants.{Happened, Halted}

-- the seat that makes an entry: that of the client that offers, asks or leaves; all others are made by none
abbrev pub seat_for : Event → Option ℕ
seat_for (pended client number offer ask) = Some (client - 1)
seat_for (acted action d by) = None
seat_for (replied client number answer) = None
seat_for (stalled names) = None
seat_for (left client) = Some (client - 1)

abbrev pub maker_of : Line → Option ℕ
maker_of (Happened entry) = seat_for (event_of entry)
maker_of Halted = None

abbrev pub mark : Bool → List Line
mark halted = if halted then Halted ∷ [] else []

abbrev pub lines_of : List Entry → Bool → List Line
lines_of entries halted = map Happened entries ++ mark halted

-- what happened, by the lines
abbrev pub events_in : List Line → List Event
events_in [] = []
events_in (Happened entry ∷ lines) = event_of entry ∷ events_in lines
events_in (Halted ∷ lines) = events_in lines

-- how many actions there were
abbrev pub actions_after : ℕ → List Event → ℕ
actions_after at [] = at
actions_after at (event ∷ log) = actions_after (actions_with at event) log

-- each of so many clients has left
abbrev pub AllHaveLeft : ℕ → List Line → Type 0
AllHaveLeft clients lines = (k : ℕ) → 1 ≤ k → k ≤ clients → Contains (events_in lines) (left k)
