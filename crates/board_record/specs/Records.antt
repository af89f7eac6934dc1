-- What holds of the record of a session.
use Rattle.std.specs.Prelude.{ℕ, ◌≡◌, List, Option, Some, None}
use Rattle.spec_core.specs.Code.{Program}
use Rattle.spec_core.specs.Ready.{IsReady}
use Rattle.board_tree.specs.declared.ready.Ready.{Ready}
use Rattle.board_tree.specs.Views.{IsNextAction}
use Rattle.rule_model.specs.declared.action.Action.{Action}
use Rattle.rule_model.specs.Behaviours.{Behaviour}
use Rattle.rule_model.specs.Code.{IsStart}
use Rattle.rule_model.specs.Derivations.{Derivation}
use Rattle.rule_model.specs.Derives.{Derives}
use Rattle.rule_model.specs.Events.{Event, OfferName}
use Rattle.rule_model.specs.Legal.{IsAgreed, IsDerivation}
use Rattle.rule_model.specs.States.{State, start_state, after_action}
use Rattle.board_record.specs.declared.ready_act.ReadyAct.{ReadyAct}
use Rattle.log_states.specs.Clients.{numbers_from}
use Rattle.log_states.specs.declared.state.SessionState.{SessionState}
use Rattle.log_states.specs.Views.{state_at}
use Rattle.node_trees.specs.Shapes.{Shape, stands_for}

-- the log is a derivation that begins with the specification's behaviour and so many clients, and leads to the state
pub record IsSession (program : Program) (clients : ℕ) (log : List Event) (s : State) : Type 0 where
  pub behaviour : Behaviour
  pub start : IsStart program behaviour
  pub derivation : IsDerivation program log (start_state behaviour (numbers_from 1 clients)) s

-- the state, whose behaviour is the one that the tree stands for
abbrev pub state_with : Program → Shape → SessionState → State
state_with program t s = state_at (stands_for program t) s

-- the log of a specification that is ready to run leads to the state
pub record IsRecord (program : Program) (clients : ℕ) (log : List Event) (s : State) : Type 0 where
  pub ready : IsReady program
  pub session : IsSession program clients log s

-- by these rules the behaviour does an action, to which the client of this offer agrees; or nobody has to, since it is unseen
pub record MayAct (program : Program) (s : State) (d : Derivation) (by : Option OfferName) : Type 0 where
  pub action : Action
  pub rest : Behaviour
  pub derives : Derives program s.behaviour d action rest
  pub agreed : IsAgreed program s action by

-- the action is that of the tree that stands ready, and the state is the one that it leads to, whichever behaviour is reached
pub record IsReadyAct (s : State) (by : Option OfferName) (t : Option Ready) (r : ReadyAct) : Type 0 where
  pub next : IsNextAction t r.action
  pub state : (rest : Behaviour) → state_at rest r.state ≡ after_action s r.action by rest

-- such an act stands ready
abbrev pub IsReadied : State → Option OfferName → Option Ready → Option ReadyAct → Type 0
IsReadied s by t None = ⊥
IsReadied s by t (Some r) = IsReadyAct s by t r
