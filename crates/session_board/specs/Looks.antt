-- What a client and a worker find in a turn. (This profile.)
use Rattle.std.specs.Prelude.{◌≡◌, ◌<◌, IfOk, None, Result, drop, length, map, take, List}
use Rattle.rule_model.specs.Answers.{answer_of}
use Rattle.rule_model.specs.Events.{OfferName, event_of}
use Rattle.spec_core.specs.declared.memory.Memory.{Memory}
use Rattle.candidates.specs.Models.{job_of}
use Rattle.board_core.specs.declared.job.Job.{Job}
use Rattle.node_trees.specs.Origins.{source_of}
use Rattle.board_core.specs.Views.{BoardView, tree}
use Rattle.board_core.specs.Working.{left_out}
use Rattle.board_work.specs.declared.outcome.Outcome.{Outcome}
use Rattle.board_work.specs.Handed.{ChangesNothing, IsInTime, IsTakenIn}
use Rattle.session_board.specs.declared.line.Line.{Line}
use Rattle.session_board.specs.declared.shared.Look.{Look}
use Rattle.session_board.specs.declared.shared.Look.TheVariants.{Answered, Free, Settled, Idle}
use Rattle.session_board.specs.declared.shared.Work.{Work}
use Rattle.session_board.specs.declared.shared.Work.TheVariants as work
use Rattle.session_board.specs.declared.spot.Spot.{Spot}
use Rattle.session_board.specs.declared.turning.Turn.TheVariants as turn
use Rattle.session_board.specs.Answers.{AnswersAll, EndsWithAnswer, first_answer}
use Rattle.session_board.specs.Lines.{AllHaveLeft, events_in}
use Rattle.session_board.specs.Shared.{SharedView, fixed_part, lines}
use Rattle.session_board.specs.Turning.{ComesOfTurn, HasNothingToDo}

-- where the answer is found, the list up to the spot ends with it, and has the answers to all offers of the client
abbrev pub ComesOfLook : List Line → OfferName → Spot → Look → Type 0
ComesOfLook lines name spot (Answered reply) =
    EndsWithAnswer (take spot.lines lines) name (answer_of reply) × AnswersAll name.0 (events_in (take spot.lines lines))
ComesOfLook lines name spot (Free job) = Unit {0}
ComesOfLook lines name spot Settled = Unit {0}
ComesOfLook lines name spot Idle = Unit {0}

-- no entry behind the spot answers the offer of this name
abbrev pub IsUnanswered : SharedView → OfferName → Spot → Type 0
IsUnanswered v name spot = first_answer spot.lines spot.actions (map event_of (drop spot.lines v.board.session.entries)) name ≡ None

-- what one step of the session leaves for a client to find
abbrev pub IsStepOfLook : BoardView → BoardView → Look → Type 0
IsStepOfLook old new (Answered reply) = ⊥
IsStepOfLook old new (Free taken) = ComesOfTurn old new (turn.Free taken.job)
IsStepOfLook old new Settled = ComesOfTurn old new turn.Settled
IsStepOfLook old new Idle = HasNothingToDo old new

-- where the answer is found nothing changes; else there is none behind the spot, and the session makes one step
abbrev pub LooksOn : SharedView → SharedView → OfferName → Spot → Look → Type 0
LooksOn old new name spot (Answered reply) = new ≡ old
LooksOn old new name spot (Free taken) = IsUnanswered old name spot × IsStepOfLook old.board new.board (Free taken)
LooksOn old new name spot Settled = IsUnanswered old name spot × IsStepOfLook old.board new.board Settled
LooksOn old new name spot Idle = IsUnanswered old name spot × IsStepOfLook old.board new.board Idle

-- it is what the last of several looks finds, between which the session stays what it was made with
abbrev pub LooksOnAtLast : SharedView → SharedView → OfferName → Look → Type 0
LooksOnAtLast old new name look =
    (before : SharedView) × (spot : Spot) × (fixed_part before ≡ fixed_part old) × LooksOn before new name spot look

-- What came of a job is handed in: in time it is taken in, and too late nothing changes of nodes; the job is no longer out.
pub record IsHandedIn (old new : BoardView) (job : Job) (outcome : Result Outcome Memory) : Type 0 where
  pub taken : IfOk outcome (λ o. IsInTime (tree old) (source_of job.origin) (job_of job.task) → IsTakenIn old new (job_of job.task) o)
  pub late : (IsInTime (tree old) (source_of job.origin) (job_of job.task) → ⊥) → ChangesNothing old new
  pub out : map job_of new.out ≡ left_out (job_of job.task) (map job_of old.out)

-- that, and then the session is looked at
abbrev pub HandsInAndLooks : SharedView → SharedView → Job → Result Outcome Memory → OfferName → Look → Type 0
HandsInAndLooks old new job outcome name look =
    (between : SharedView) × IsHandedIn old.board between.board job outcome × LooksOnAtLast between new name look

-- The session makes one step. Where an entry was appended, the list is longer; where nothing was to be done, some client hasn't left, or all
-- have.
abbrev pub ComesOfWork : SharedView → SharedView → Work → Type 0
ComesOfWork old new (work.Free taken) = ComesOfTurn old.board new.board (turn.Free taken.job)
ComesOfWork old new work.Settled = ComesOfTurn old.board new.board turn.Settled × (length (lines old) < length (lines new))
ComesOfWork old new work.Idle =
    ComesOfTurn old.board new.board turn.Idle × (AllHaveLeft new.board.session.clients (lines new) → ⊥)
ComesOfWork old new work.Over = ComesOfTurn old.board new.board turn.Over × AllHaveLeft new.board.session.clients (lines new)
