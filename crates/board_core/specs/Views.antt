-- What contracts see of a board.
use Rattle.std.specs.Prelude.{◌≡◌, List, Option}
use Rattle.run_settings.specs.declared.settings.Settings.{Settings}
use Rattle.spec_core.specs.declared.window.Window.{Window}
use Rattle.spec_core.specs.Code.{Program}
use Rattle.board_tree.specs.Views as trees
use Rattle.rule_model.specs.Derivations.{Derivation}
use Rattle.rule_model.specs.Events.{Event}
use Rattle.rule_model.specs.States.{PendingOffer, State}
use Rattle.symbolic_rules.specs.Windows.{Windows}
use Rattle.symbolic_rules.specs.Tables.{windows_in}
use Rattle.decision_trees.specs.Rules.{Next}
use Rattle.candidate_laws.specs.Asked.{TreeQuery}
use Rattle.node_trees.specs.Shapes.{Shape}
use Rattle.candidate_verdicts.specs.declared.pieces.Pieces.{Pieces}
use Rattle.candidate_verdicts.specs.Known as known
use Rattle.candidate_verdicts.specs.Stored.{stored}
use Rattle.candidates.specs.declared.job.NodeJob as jobs
use Rattle.candidates.specs.Jobs.{NodeJob}
use Rattle.candidates.specs.Listed.{first_tree, all_trees}
use Rattle.board_laws.specs.Needed.{entry_decided, jobs_needed}
use Rattle.board_record.specs.Views as records
use Rattle.board_record.specs.Views.{RecordView}
use Rattle.board_offers.specs.Waiting.{waiting_in}
use Rattle.board_laws.specs.declared.stop_reason.StopReason.{StopReason}

-- the record of the session; its settings; the first values of each sort; what is known of nodes; the jobs that are out; why the session
-- has stopped, if it has
pub record BoardView : Type 0 where
  pub session : RecordView
  pub settings : Settings
  pub windows : List Window
  pub pieces : Pieces
  pub out : List jobs.NodeJob
  pub stop : Option StopReason

abbrev pub program : BoardView → Program
program v = records.program v.session

-- what happened, in order
abbrev pub events : BoardView → List Event
events v = records.events v.session

abbrev pub state : BoardView → State
state v = records.state v.session

-- the tree of the behaviour that is reached
abbrev pub tree : BoardView → Shape
tree v = trees.shape v.session.tree

abbrev pub windows : BoardView → Windows
windows v = windows_in v.windows

-- what is known of nodes
abbrev pub pieces : BoardView → known.Pieces
pieces v = stored v.pieces

-- searches in what is known

abbrev pub first_at : BoardView → TreeQuery → Option (Option Derivation)
first_at v q = first_tree (program v).theory (windows v) (pieces v) (tree v) q

abbrev pub all_at : BoardView → TreeQuery → Option (List Derivation)
all_at v q = all_trees (program v).theory (windows v) (pieces v) (tree v) q

-- the entry that the rules decide from what is known
abbrev pub decided_at : BoardView → Option (Next PendingOffer Derivation)
decided_at v = entry_decided (program v).theory (windows v) (tree v) (pieces v) (waiting_in (state v))

-- the jobs that the rules still need
abbrev pub needed_at : BoardView → List NodeJob
needed_at v = jobs_needed (program v).theory (windows v) (tree v) (pieces v) (waiting_in (state v))

-- one specification, with as many clients, the same settings and windows
abbrev pub SameSetting : BoardView → BoardView → Type 0
SameSetting old new = records.SameSetting old.session new.session × (new.settings ≡ old.settings) × (new.windows ≡ old.windows)

-- the same, and the same clients are open
abbrev pub SameSession : BoardView → BoardView → Type 0
SameSession old new = SameSetting old new × ((state new).open_clients ≡ (state old).open_clients)

-- one log and one state
abbrev pub SameLog : BoardView → BoardView → Type 0
SameLog old new = records.SameLog old.session new.session

-- the log goes on with one more entry
abbrev pub HasOneMore : BoardView → BoardView → Type 0
HasOneMore old new = records.HasOneMore old.session new.session

-- one tree, of which the same is known
abbrev pub SameNodes : BoardView → BoardView → Type 0
SameNodes old new = (tree new ≡ tree old) × (new.session.tree.next ≡ old.session.tree.next) × (new.pieces ≡ old.pieces)
