-- What holds of a board.
use Rattle.std.specs.Prelude.{ℕ, ◌≡◌, List, Option, None, IfSome, false, length, map}
use Rattle.spec_core.specs.declared.window.Window.{Window}
use Rattle.spec_core.specs.Code.{Program}
use Rattle.spec_core.specs.Lists.{Each}
use Rattle.spec_core.specs.Theories.{Theory}
use Rattle.symbolic_rules.specs.Windows.{Windows}
use Rattle.rule_model.specs.Derivations.{Derivation}
use Rattle.rule_model.specs.Events.{Event, pended}
use Rattle.candidates.specs.Jobs.{NodeJob}
use Rattle.candidates.specs.Models.{job_of}
use Rattle.board_laws.specs.Needed.{generation_of}
use Rattle.expand.specs.Expansions.{IsExpansion}
use Rattle.board_laws.specs.JobValues.{GivesValues}
use Rattle.board_record.specs.Views as records
use Rattle.board_record.specs.Views.{RecordView}
use Rattle.sort_windows.specs.Found.{AreBySorts}
use Rattle.node_trees.specs.Origins.{Source, meaning}
use Rattle.node_trees.specs.Rests.{Work, IsWayOf}
use Rattle.node_trees.specs.Shapes.{Shape, IsRight, Lives}
use Rattle.offer_index.specs.Index.{IndexView, IsIndexOf}
use Rattle.candidate_composites.specs.Kept.{some_waits}
use Rattle.symbolic_rules.specs.Tables.{windows_in}
use Rattle.candidate_verdicts.specs.Known.{Pieces}
use Rattle.candidate_verdicts.specs.Laws.{ArePiecesOf, NoneFrom}
use Rattle.board_laws.specs.Complete.{AreComplete, AreExpansions, IsComplete}
use Rattle.board_core.specs.Views as views
use Rattle.board_core.specs.Views.{BoardView}

-- The rows are the windows of the sorts, of so many values. Each expanded node has the plans of its origin's composites and its ways to
-- act, also for all trees of its plans. What is known of nodes is what their origins show, and nothing is known of generations that haven't
-- begun.
pub record IsKnown (program : Program) (size : ℕ) (rows : List Window) (t : Shape) (pieces : Pieces) (next : ℕ) : Type 0 where
  pub rows_are : AreBySorts program.theory size rows
  pub all_sorts : length rows ≡ length program.theory.sorts
  pub right : IsRight program t
  pub complete : AreComplete program t
  pub expansions : AreExpansions program (windows_in rows) t
  pub shown : ArePiecesOf program (windows_in rows) pieces t
  pub none_from : NoneFrom pieces next

-- nothing is known of generations that don't live, and each job that is out is at a node that lives
pub record AreOfLiving (t : Shape) (pieces : Pieces) (out : List NodeJob) : Type 0 where
  pub known : (g : ℕ) (d : Derivation) → (Lives t g → ⊥) → pieces g d ≡ None
  pub jobs : Each (λ job. Lives t (generation_of job)) out

abbrev pub IsBoard : BoardView → Type 0
IsBoard v =
    IsKnown (views.program v) v.settings.values v.windows (views.tree v) (views.pieces v) v.session.tree.next ×
    AreOfLiving (views.tree v) (views.pieces v) (map job_of v.out)

-- an index, where there is one, is of this tree, and none of its nodes waits
pub record IsIndexed (program : Program) (rows : List Window) (t : Shape) (index : Option IndexView) : Type 0 where
  pub of_tree : IfSome index (λ i. (some_waits t ≡ false) × IsIndexOf program (windows_in rows) t i)

abbrev pub IsIndexedBoard : BoardView → Option IndexView → Type 0
IsIndexedBoard v index = IsBoard v × IsIndexed (views.program v) v.windows (views.tree v) index

-- an event that is an offer gives values
abbrev pub OffersValues : Theory → Event → Type 0
OffersValues theory (pended client number offer ask) = GivesValues theory offer
OffersValues theory _ = Unit {0}

-- so does each offer that a session has seen
abbrev pub AllOfferValues : RecordView → Type 0
AllOfferValues r = Each (OffersValues (records.program r).theory) (records.events r)

-- the work is what the origin can do: it has the plans of its composites, its ways to act, and ways for the trees of its plans
pub record IsWorkAt (program : Program) (w : Windows) (o : Source) (work : Work) : Type 0 where
  pub expansion : IsExpansion program w (meaning program o) work.plans
  pub ways : Each (IsWayOf program (meaning program o)) work.ways
  pub complete : IsComplete program o work
