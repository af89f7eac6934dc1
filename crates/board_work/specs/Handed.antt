-- What a board is after something was handed in. (This profile.)
use Rattle.std.specs.Prelude.{ℕ, ◌≡◌, ◌⊎◌, Option, None, Some, option_map}
use Rattle.rule_model.specs.Derivations.{Derivation, derivation_of}
use Rattle.board_laws.specs.declared.stop_reason.StopReason.{StopReason}
use Rattle.symbolic_actions.specs.Models.{show_of}
use Rattle.symbolic_actions.specs.Shows.{Show}
use Rattle.board_laws.specs.Reasons.{IsAskedByRules, IsReasonToStop}
use Rattle.node_trees.specs.Origins.{Source}
use Rattle.node_trees.specs.Rests.{Work, expansion_of}
use Rattle.node_trees.specs.Shapes.{Shape, posted}
use Rattle.candidate_verdicts.specs.declared.pieces.Piece.{Piece}
use Rattle.candidate_verdicts.specs.Known.{NodePart, node_part}
use Rattle.candidate_verdicts.specs.Stored.{with_piece}
use Rattle.candidates.specs.Jobs.{NodeJob, to_expand, to_judge}
use Rattle.board_laws.specs.Needed.{IsUndone, generation_of}
use Rattle.board_core.specs.Views.{BoardView, pieces, program, state, tree, SameLog, SameNodes, SameSession}
use Rattle.board_core.specs.Working.{HasOrigin, IsFree, IsNeeded, first_reason}
use Rattle.board_work.specs.declared.outcome.Outcome.{Outcome}
use Rattle.board_work.specs.declared.outcome.Outcome.TheVariants.{Expanded, Judged, Stopped}

-- a reason that is so, where the rules have something left to ask, stops the session, unless another has
abbrev pub StopsNow : BoardView → BoardView → Type 0
StopsNow old new =
    (reason : StopReason) × IsReasonToStop (program old) old.settings (state old) reason ×
    IsAskedByRules (program old) old.settings (state old) reason × (new.stop ≡ first_reason old.stop reason)

-- the job isn't done: the node waits, or nothing is known of the part of a tree of rules
abbrev pub IsUndoneOn : BoardView → NodeJob → Type 0
IsUndoneOn v job = IsUndone (pieces v) (tree v) job

-- each job that was done is so still: no node waits that didn't, and of what something was known, something is known
abbrev pub KeepsDone : BoardView → BoardView → Type 0
KeepsDone old new = (job : NodeJob) → IsUndoneOn new job → IsUndoneOn old job

-- the session has the log and the state that it had, and each job that was done is so still; it is stopped only for a reason that is so
pub record HandsIn (old new : BoardView) : Type 0 where
  pub session : SameSession old new
  pub log : SameLog old new
  pub done : KeepsDone old new
  pub stop : (new.stop ≡ old.stop) ⊎ StopsNow old new

-- The job isn't too late: its node lives and stands for what it stood for, and isn't expanded, where this is to be done.
abbrev pub IsInTime : Shape → Source → NodeJob → Type 0
IsInTime t o job = HasOrigin t (generation_of job) o × IsFree t job

-- nothing changes of nodes, and no reason stops the session
abbrev pub ChangesNothing : BoardView → BoardView → Type 0
ChangesNothing old new = SameNodes old new × (new.stop ≡ old.stop)

module _ (old new : BoardView) where
  -- the node of the generation has this work, and nothing else changes of nodes
  pub record IsExpanded (g : ℕ) (work : Work) : Type 0 where
    pub expanded : tree new ≡ posted g work (tree old)
    pub known : new.pieces ≡ old.pieces
    pub stop : new.stop ≡ old.stop

  -- this is known to be what the node shows by the tree of rules, unless something was known, and nothing else changes of nodes
  pub record IsJudged (part : NodePart) (shown : Option Show) : Type 0 where
    pub piece : Piece
    pub part_is : node_part piece.generation.0 (derivation_of piece.rules) ≡ part
    pub shown_is : option_map show_of piece.shown ≡ shown
    pub known : (g : ℕ) (d : Derivation) → pieces new g d ≡ with_piece (pieces old) piece g d
    pub nodes : tree new ≡ tree old
    pub stop : new.stop ≡ old.stop

  -- the reason stops the session where the rules still need the job, and else changes nothing; nothing changes of nodes
  pub record IsStopped (job : NodeJob) (reason : StopReason) : Type 0 where
    pub needed : IsNeeded old job → new.stop ≡ Some reason
    pub unneeded : (IsNeeded old job → ⊥) → new.stop ≡ old.stop
    pub nodes : SameNodes old new

  -- what is known, or stops the session, after this came of the job
  abbrev pub IsTakenIn : NodeJob → Outcome → Type 0
  IsTakenIn (to_expand g) (Expanded work) = IsExpanded g (expansion_of work)
  IsTakenIn (to_expand g) (Judged shown) = ⊥
  IsTakenIn (to_expand g) (Stopped reason) = IsStopped (to_expand g) reason
  IsTakenIn (to_judge part) (Expanded work) = ⊥
  IsTakenIn (to_judge part) (Judged shown) = IsJudged part (option_map show_of shown)
  IsTakenIn (to_judge part) (Stopped reason) = IsStopped (to_judge part) reason

  -- where there was no memory to take something in, all is as it was
  pub record IsAsBefore : Type 0 where
    pub nodes : tree new ≡ tree old
    pub known : (g : ℕ) (d : Derivation) → pieces new g d ≡ pieces old g d
    pub out : new.out ≡ old.out
    pub stop : new.stop ≡ old.stop

  -- what the job was to find is known: the node is expanded; or what it shows by the tree of rules
  abbrev pub IsFound : NodeJob → Type 0
  IsFound (to_expand g) = (work : Work) × (tree new ≡ posted g work (tree old))
  IsFound (to_judge part) =
      (piece : Piece) × (node_part piece.generation.0 (derivation_of piece.rules) ≡ part) ×
      ((g : ℕ) (d : Derivation) → pieces new g d ≡ with_piece (pieces old) piece g d)

  -- the job is done: what it was to find is known, or the session has stopped
  abbrev pub IsDone : NodeJob → Type 0
  IsDone job = IsFound job ⊎ (new.stop ≡ None → ⊥)

-- the job is over: it is done, or the session has stopped
abbrev pub IsOver : BoardView → NodeJob → Type 0
IsOver v job = (IsUndoneOn v job → ⊥) ⊎ (v.stop ≡ None → ⊥)
