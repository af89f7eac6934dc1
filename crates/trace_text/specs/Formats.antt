-- Traces in their formats (docs/FORMATS.md, "Traces"): a line for each event, between a first line and one that tells the end.
use Rattle.std.specs.Prelude.{ℕ, suc, ◌+◌, ◌/◌, ◌%◌, ◌==◌, Bool, true, false, if◌then◌else◌, List, [], ◌∷◌, ◌++◌, drop, take, length, sum_by, codes, decimal}
use Rattle.rule_model.specs.Events.{OfferName, Event, pended, acted, replied, stalled, left, Ending}
use Rattle.trace_text.specs.declared.format.Format.{Format}
use Rattle.trace_text.specs.declared.format.Format.TheVariants.{One, Two}
use Rattle.trace_text.specs.Pending.{pending_behind}
use Rattle.trace_text.specs.Trace.{Names, action_text, by_text, end_word, event_line, tree_text}

abbrev pub first_line : Format → List ℕ
first_line One = codes "lotos-trace 1\n"
first_line Two = codes "lotos-trace 2\n"

-- the greatest number of bytes with which both texts begin
abbrev pub common_front : List ℕ → List ℕ → ℕ
common_front (b ∷ bs) (c ∷ cs) = if b == c then suc (common_front bs cs) else 0
common_front _ _ = 0

-- The text of an action's tree behind the text of the tree before it: in format 2 how many bytes both begin with, and what stands behind
-- these.
abbrev pub rules_text : Format → List ℕ → List ℕ → List ℕ
rules_text One before text = text
rules_text Two before text = decimal (common_front before text) ++ codes ":" ++ drop (common_front before text) text

-- What the lines of an event depend on, of those before it: the text of the tree whose front the next tree may share, the number of
-- actions, and the offers that are pending.
pub record Before : Type 0 where
  pub tree : List ℕ
  pub actions : ℕ
  pub offers : List OfferName

abbrev pub nothing_before : Before
nothing_before = record { tree = []; actions = 0; offers = [] }

-- a point stands behind each 64th action
abbrev pub is_at_point : ℕ → Bool
is_at_point actions = actions % 64 == 0

-- how many points stand behind these many actions
abbrev pub points_behind : Format → ℕ → ℕ
points_behind One actions = 0
points_behind Two actions = actions / 64

-- the number, from 1, of the line of the entry of this number, from 0, which these many actions stand before
abbrev pub line_number : Format → ℕ → ℕ → ℕ
line_number format entry actions = entry + 2 + points_behind format actions

-- an action is one, and no other event is
abbrev pub actions_of : Event → ℕ
actions_of (acted action d by) = 1
actions_of event = 0

-- how many actions there are in a log
abbrev pub actions_in : List Event → ℕ
actions_in log = sum_by actions_of log

-- the number of the line of the entry of this number in the trace of a log
abbrev pub entry_line : Format → List Event → ℕ → ℕ
entry_line format log entry = line_number format entry (actions_in (take entry log))

-- the line of a point: the number of actions, and how many offers are pending
abbrev pub point_line : Before → List ℕ
point_line before = codes "point " ++ decimal before.actions ++ codes " " ++ decimal (length before.offers)

-- behind an event, a point in format 2 where the event is a 64th action
abbrev pub point_text : Format → Before → Event → List ℕ
point_text Two before (acted action d by) = if is_at_point before.actions then point_line before ++ codes "\n" else []
point_text format before event = []

module _ (names : Names) where
  -- sharing begins anew behind a point
  abbrev pub behind : Before → Event → Before
  behind before (acted action d by) = record {
    tree = if is_at_point (before.actions + 1) then [] else tree_text names d;
    actions = before.actions + 1;
    offers = pending_behind before.offers (acted action d by);
  }
  behind before (pended client number offer ask) =
      record before { offers = pending_behind before.offers (pended client number offer ask) }
  behind before (replied client number answer) = record before { offers = pending_behind before.offers (replied client number answer) }
  behind before (stalled all) = record before { offers = pending_behind before.offers (stalled all) }
  behind before (left client) = before

  -- what stands before, behind the lines of a log
  abbrev pub behind_log : Before → List Event → Before
  behind_log before [] = before
  behind_log before (event ∷ log) = behind_log (behind before event) log

  -- the line of an event, where its tree may share the front of this text
  abbrev pub format_line : Format → List ℕ → Event → List ℕ
  format_line format tree (acted action d by) =
      codes "act " ++ action_text names action ++ by_text by ++ codes " rules " ++ rules_text format tree (tree_text names d)
  format_line format tree event = event_line names event

  -- the lines of an event: its own, and that of a point
  abbrev pub event_text : Format → Before → Event → List ℕ
  event_text format before event = format_line format before.tree event ++ codes "\n" ++ point_text format (behind before event) event

  abbrev pub log_text : Format → Before → List Event → List ℕ
  log_text format before [] = []
  log_text format before (event ∷ log) = event_text format before event ++ log_text format (behind before event) log

  -- the whole trace: its first line, the lines of each event, and the end
  abbrev pub trace_bytes : Format → List Event → Ending → List ℕ
  trace_bytes format log ending = first_line format ++ log_text format nothing_before log ++ codes "end " ++ end_word names ending ++ codes "\n"
