-- Where a log answers an offer. (This profile.)
use Rattle.std.specs.Prelude.{ℕ, ◌+◌, ◌≡◌, ◌≤◌, ◌++◌, [], ◌∷◌, List, length, map, take, Option, Some, None}
use Rattle.turn_lock.specs.Entries.{Begins}
use Rattle.rule_model.specs.declared.log.Entry.{Entry}
use Rattle.rule_model.specs.Answering.{name_of}
use Rattle.rule_model.specs.Answers.{Answer}
use Rattle.rule_model.specs.Events.{Event, OfferName, event_of}
use Rattle.board_record.specs.Answered.{actions_with, reply_in}
use Rattle.session_laws.specs.Answers.{answered_to, offers_by}
use Rattle.session_board.specs.declared.line.Line.{Line}
use Rattle.session_board.specs.declared.line.Line.TheVariants.{Happened}
use Rattle.session_board.specs.declared.spot.Spot.{Spot}
use Rattle.session_board.specs.Lines.{actions_after, events_in}

-- an answer, with the numbers of the entries and of the actions up to it
pub record Found : Type 0 where
  pub entries : ℕ
  pub actions : ℕ
  pub answer : Answer

abbrev pub found_or : Option Answer → ℕ → ℕ → Option Found → Option Found
found_or None entries actions later = later
found_or (Some answer) entries actions later = Some (record { entries = entries; actions = actions; answer = answer })

-- the first answer to the offer of this name in a log, before which there were so many entries and actions
abbrev pub first_answer : ℕ → ℕ → List Event → OfferName → Option Found
first_answer entries actions [] name = None
first_answer entries actions (event ∷ log) name =
    found_or (reply_in actions event name) (entries + 1) (actions_with actions event)
    (first_answer (entries + 1) (actions_with actions event) log name)

-- the spot stands in the list, and knows how many actions there are up to it
pub record IsSpot (lines : List Line) (spot : Spot) : Type 0 where
  pub within : spot.lines ≤ length lines
  pub actions : spot.actions ≡ actions_after 0 (events_in (take spot.lines lines))

-- The lines end with an entry that answers the offer of this name so.
pub record EndsWithAnswer (lines : List Line) (name : OfferName) (answer : Answer) : Type 0 where
  pub before : List Line
  pub entry : Entry
  pub ends : lines ≡ before ++ Happened entry ∷ []
  pub says : reply_in (actions_after 0 (events_in before)) (event_of entry) name ≡ Some answer

-- each offer of the client in the log is answered there
abbrev pub AnswersAll : ℕ → List Event → Type 0
AnswersAll client log = answered_to client log ≡ map name_of (offers_by client log)

-- All offers of the client among the lines stand in a beginning of them, in which each is answered.
pub record HasItsAnswers (client : ℕ) (lines : List Line) : Type 0 where
  pub known : List Line
  pub begins : Begins known lines
  pub all : offers_by client (events_in lines) ≡ offers_by client (events_in known)
  pub answered : AnswersAll client (events_in known)
