-- What contracts see of the record of a session.
use Rattle.std.specs.Prelude.{ℕ, ◌≡◌, ◌<◌, List, [], ◌∷◌, ◌++◌, map, Option}
use Rattle.spec_core.specs.declared.code.Checked.{Checked}
use Rattle.spec_core.specs.Code.{Program, program_of}
use Rattle.board_tree.specs.Views.{TreeView, shape, IsReserved}
use Rattle.rule_model.specs.declared.action.Action.{Action}
use Rattle.rule_model.specs.declared.log.Entry.{Entry}
use Rattle.rule_model.specs.Derivations.{Derivation}
use Rattle.rule_model.specs.Derives.{Derives}
use Rattle.rule_model.specs.Events.{Event, OfferName, acted, event_of}
use Rattle.rule_model.specs.Legal.{IsAgreed}
use Rattle.rule_model.specs.States.{State, after_action}
use Rattle.board_record.specs.declared.ready_act.ReadyAct.{ReadyAct}
use Rattle.board_record.specs.Records.{IsReadied, state_with}
use Rattle.log_states.specs.declared.state.SessionState.{SessionState}
use Rattle.node_trees.specs.Shapes.{stands_for}

-- the specification; how many clients there are; the log; the state that it leads to, but for its behaviour; the tree of its behaviour; the
-- act that stands ready; for how many more entries the log has room
pub record RecordView : Type 0 where
  pub checked : Checked
  pub clients : ℕ
  pub entries : List Entry
  pub session : SessionState
  pub tree : TreeView
  pub ready : Option ReadyAct
  pub room : ℕ

abbrev pub program : RecordView → Program
program v = program_of v.checked

-- what happened, in order
abbrev pub events : RecordView → List Event
events v = map event_of v.entries

abbrev pub state : RecordView → State
state v = state_with (program v) (shape v.tree) v.session

-- one specification, with as many clients
abbrev pub SameSetting : RecordView → RecordView → Type 0
SameSetting old new = (new.checked ≡ old.checked) × (new.clients ≡ old.clients)

-- one log and one state
abbrev pub SameLog : RecordView → RecordView → Type 0
SameLog old new = (events new ≡ events old) × (state new ≡ state old) × (new.entries ≡ old.entries)

-- the log goes on with one more entry
abbrev pub HasOneMore : RecordView → RecordView → Type 0
HasOneMore old new = (entry : Entry) × (new.entries ≡ old.entries ++ entry ∷ [])

-- one tree, but for what stands ready
abbrev pub SameTree : RecordView → RecordView → Type 0
SameTree old new =
    (shape new.tree ≡ shape old.tree) × (new.tree.next ≡ old.tree.next) × (new.tree.gone ≡ old.tree.gone) × (new.tree.came ≡ old.tree.came)

-- all that the action by these rules needs stands ready, where it takes the offer of this name
pub record IsActReserved (v : RecordView) (d : Derivation) (by : Option OfferName) : Type 0 where
  pub tree : IsReserved (program v) (shape v.tree) v.tree.next d v.tree.ready
  pub act : IsReadied (state v) by v.tree.ready v.ready
  pub room : 0 < v.room

-- The behaviour has done an action by these rules, to which the client of this offer agreed, or nobody had to. The log has it as its last
-- entry, and the state is the one after it, with the behaviour that the tree stands for.
pub record HasActed (old new : RecordView) (d : Derivation) (by : Option OfferName) : Type 0 where
  pub action : Action
  pub derives : Derives (program old) (state old).behaviour d action (stands_for (program old) (shape new.tree))
  pub agreed : IsAgreed (program old) (state old) action by
  pub log : events new ≡ events old ++ acted action d by ∷ []
  pub one_more : HasOneMore old new
  pub state : state new ≡ after_action (state old) action by (stands_for (program old) (shape new.tree))
