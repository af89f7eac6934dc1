-- Simulations: a session of one client, whose user chooses what is done. (docs/FORMATS.md, "The simulator".)
use Rattle.std.specs.Prelude.{ℕ, ◌≡◌, ◌≤◌, ◌<◌, ◌⊎◌, List, [], Option, Some, None, Bool, true, false, string_bytes}
use Rattle.spec_core.specs.declared.code.Checked.{Checked}
use Rattle.run_settings.specs.declared.settings.Settings.{Settings}
use Rattle.rule_model.specs.Answers.{answer_of}
use Rattle.trace_text.specs.Names.{names_in}
use Rattle.trace_text.specs.Trace.{begun_bytes}
use Rattle.board_core.specs.Views.{BoardView, events, program, state, SameLog, SameSetting}
use Rattle.simulator_lines.specs.Lines.{Asked, menu, step, offered, trace, quit, IsLine, IsNoLine}
use Rattle.simulator_steps.specs.declared.asking.Answered.TheVariants as answered
use Rattle.simulator_steps.specs.declared.choosing.Chosen.TheVariants as chosen
use Rattle.simulator_steps.specs.Asking.{IsAtRest}
use Rattle.simulator_steps.specs.Choosing.{ComesOfChoice}
use Rattle.simulator_steps.specs.Listing.{TellsReason}
use Rattle.simulator.specs.declared.answer.SimAnswer.{SimAnswer}
use Rattle.simulator.specs.declared.answer.SimAnswer.TheVariants.{Menu, Done, Answer, Trace, Bye}
use Rattle.simulator.specs.declared.answer.SimFault.{SimFault}
use Rattle.simulator.specs.declared.answer.SimFault.TheVariants.{BadLine, NoStep, Memory}
use Rattle.simulator.specs.Menus.{HasSteps, IsMenu}
use Rattle.simulator.specs.Offering.{ComesOfOffer}

-- the board of its session; how many steps the last menu has, unless an action was done since; and whether a line met want of memory
pub record SimView : Type 0 where
  pub board : BoardView
  pub steps : Option ℕ
  pub failed : Bool

-- the steps are those of a menu of the behaviour that is reached
abbrev pub CountsSteps : BoardView → Option ℕ → Type 0
CountsSteps v None = Unit {0}
CountsSteps v (Some count) = HasSteps (program v) v.settings (state v) count

-- unless a line met want of memory, the one client is open with no offer pending, and the last menu is one of the behaviour that is reached
pub record IsSim (s : SimView) : Type 0 where
  pub rests : s.failed ≡ false → IsAtRest (state s.board)
  pub counts : s.failed ≡ false → CountsSteps s.board s.steps

-- nothing was done yet
pub record HasBegun (checked : Checked) (settings : Settings) (s : SimView) : Type 0 where
  pub checked_is : s.board.session.checked ≡ checked
  pub settings_are : s.board.settings ≡ settings
  pub one_client : s.board.session.clients ≡ 1
  pub log : events s.board ≡ []
  pub running : s.board.stop ≡ None
  pub steps : s.steps ≡ None
  pub well : s.failed ≡ false

-- where the last menu had so many steps, unless there was none yet, or an action was done since

-- it has a step of this number
pub record HasStep (last : Option ℕ) (number : ℕ) : Type 0 where
  pub count : ℕ
  pub steps : last ≡ Some count
  pub from_one : 1 ≤ number
  pub within : number ≤ count

-- it has none
pub data LacksStep (last : Option ℕ) (number : ℕ) : Type 0 where
  no_menu : last ≡ None → LacksStep last number
  not_in_menu : (count : ℕ) → last ≡ Some count → ((number ≡ 0) ⊎ (count < number)) → LacksStep last number

-- what is asked for is no step, or one that it has
abbrev pub MayAnswer : Option ℕ → Asked → Type 0
MayAnswer last menu = Unit {0}
MayAnswer last (step n) = HasStep last n
MayAnswer last (offered w) = Unit {0}
MayAnswer last trace = Unit {0}
MayAnswer last quit = Unit {0}

-- what is asked for is a step that it lacks
abbrev pub LacksAsked : Option ℕ → Asked → Type 0
LacksAsked last menu = ⊥
LacksAsked last (step n) = LacksStep last n
LacksAsked last (offered w) = ⊥
LacksAsked last trace = ⊥
LacksAsked last quit = ⊥

-- no line met want of memory
abbrev pub sim_at : BoardView → Option ℕ → SimView
sim_at v last = record { board = v; steps = last; failed = false }

-- the menu is shown, and no reason stops the session
pub record ShowsMenu (old new : SimView) (text : List ℕ) : Type 0 where
  pub running : old.board.stop ≡ None
  pub still : new.board.stop ≡ None
  pub count : ℕ
  pub shown : IsMenu (program new.board) new.board.settings (state new.board) text count
  pub steps : new.steps ≡ Some count

-- What a line comes to that asks for this, by the answer.
--   menu: the text of the steps, or why the session has stopped; the log stays;
--   a step of the last menu: its action is done, or it is told why not;
--   an offer: an action that meets it is done, or it is told why not;
--   the trace so far; the end.
-- After an action there is no last menu.
abbrev pub Answers : SimView → SimView → Asked → SimAnswer → Type 0
Answers old new menu (Menu text) = ShowsMenu old new (string_bytes text) × SameLog old.board new.board
Answers old new menu (Answer reply) =
    TellsReason old.board new.board (answer_of reply) × SameLog old.board new.board × (new.steps ≡ old.steps)
Answers old new (step n) (Done action) = HasStep old.steps n × ComesOfChoice old.board new.board n (chosen.Done action) × (new.steps ≡ None)
Answers old new (step n) (Answer reply) = HasStep old.steps n × ComesOfChoice old.board new.board n (chosen.Told reply) × (new.steps ≡ old.steps)
Answers old new (offered w) (Done action) = ComesOfOffer old.board new.board w (answered.Done action) × (new.steps ≡ None)
Answers old new (offered w) (Answer reply) = ComesOfOffer old.board new.board w (answered.Told reply) × (new.steps ≡ old.steps)
Answers old new trace (Trace text) = (string_bytes text ≡ begun_bytes (names_in (program old.board)) (events old.board)) × (new ≡ old)
Answers old new quit Bye = new ≡ old
Answers old new _ _ = ⊥

-- this is the answer to what is asked for; no line met want of memory before, and this one doesn't
pub record HasAnswer (old new : SimView) (asked : Asked) (answer : SimAnswer) : Type 0 where
  pub answers : Answers old new asked answer
  pub before : old.failed ≡ false
  pub well : new.failed ≡ false
  pub setting : SameSetting old.board new.board

-- Why what is asked for has no answer: the last menu lacks the step, and nothing changes; or want of memory.
abbrev pub HasNoAnswer : SimView → SimView → Asked → SimFault → Type 0
HasNoAnswer old new asked BadLine = ⊥
HasNoAnswer old new asked NoStep = LacksAsked old.steps asked × (old.failed ≡ false) × (new ≡ old)
HasNoAnswer old new asked Memory = (new.failed ≡ true) × SameSetting old.board new.board

-- the text is a line that asks for something, and this is the answer
pub record IsAnswerTo (old new : SimView) (text : List ℕ) (answer : SimAnswer) : Type 0 where
  pub asked : Asked
  pub line : IsLine (program old.board) text asked
  pub answered : HasAnswer old new asked answer

-- Why a line has no answer: it is no line of the simulator; or it asks for a step that the last menu lacks; and then nothing changes. Or want of
-- memory, in this line or in one before; and each further line has no answer for want of memory.
abbrev pub ExplainsFault : SimView → SimView → List ℕ → SimFault → Type 0
ExplainsFault old new text BadLine = IsNoLine (program old.board) text × (old.failed ≡ false) × (new ≡ old)
ExplainsFault old new text NoStep =
    ((number : ℕ) × IsLine (program old.board) text (step number) × LacksStep old.steps number) × (old.failed ≡ false) × (new ≡ old)
ExplainsFault old new text Memory = (new.failed ≡ true) × SameSetting old.board new.board
