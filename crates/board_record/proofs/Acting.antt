-- What an action that stands ready makes of the record of a session.
use Rattle.std.proofs.Common.{ℕ, ◌≡◌, ◌∙◌, sym, ap, subst, List, [], ◌∷◌, ◌++◌, map, Option, Some, None}
use Rattle.std.proofs.lemmas.List.{map-append}
use Rattle.spec_core.specs.Code.{Program}
use Rattle.board_tree.specs.declared.ready.Ready.{Ready}
use Rattle.board_tree.specs.Steps.{Follows}
use Rattle.board_tree.specs.Views.{IsNextAction, IsReserved, IsStep}
use Rattle.rule_model.specs.declared.action.Action.{Action}
use Rattle.rule_model.specs.declared.log.Entry.{Entry}
use Rattle.rule_model.specs.Behaviours.{Behaviour}
use Rattle.rule_model.specs.Derivations.{Derivation}
use Rattle.rule_model.specs.Derives.{Derives}
use Rattle.rule_model.specs.Events.{OfferName, event_of, acted}
use Rattle.rule_model.specs.Legal.{IsPossible, IsAgreed}
use Rattle.rule_model.specs.States.{State, after_action}
use Rattle.board_record.proofs.Growing.{goes_on}
use Rattle.board_record.specs.declared.ready_act.ReadyAct.{ReadyAct}
use Rattle.board_record.specs.Records.{IsRecord, IsReadyAct, MayAct, state_with}
use Rattle.log_states.specs.declared.state.SessionState.{SessionState}
use Rattle.node_trees.specs.declared.origin.Gen.{Gen}
use Rattle.node_trees.specs.Shapes.{Shape, stands_for, IsRight}

-- what the behaviour does by the rules of a step is the action that stands ready
one_action : (program : Program) (t : Shape) (from : ℕ) (d : Derivation) (ready : Option Ready) (a e : Action) (c : Behaviour) →
    IsReserved program t from d ready → IsNextAction ready a → IsRight program t → Follows t d → Derives program (stands_for program t) d e c →
    e ≡ a
one_action program t from d None a e c reserved next right follows h = absurd reserved
one_action program t from d (Some r) a e c reserved next right follows h =
    (reserved.0.becomes.becomes right follows e c h).0 ∙ sym next

module _ (program : Program) (t : Shape) (session : SessionState) (d : Derivation) (by : Option OfferName) (ready : Option Ready) (r : ReadyAct)
    (v : Shape) (is : IsReadyAct (state_with program t session) by ready r) where
  abbrev s : State
  s = state_with program t session

  -- the state then
  pub state_then : state_with program v r.state ≡ after_action s r.action by (stands_for program v)
  state_then = is.state (stands_for program v)

  module _ (entry : Entry) (its : event_of entry ≡ acted r.action d by) where
    -- the log then
    pub events_then : (log logs : List Entry) → logs ≡ log ++ entry ∷ [] → map event_of logs ≡ map event_of log ++ acted r.action d by ∷ []
    events_then log logs e = ap (map event_of) e ∙ map-append event_of log (entry ∷ []) ∙ ap (λ z. map event_of log ++ z ∷ []) its

    module _ (from later : ℕ) (gone came : List Gen) (may : MayAct program s d by) (right : IsRight program t) (follows : Follows t d)
        (reserved : IsReserved program t from d ready) (step : IsStep program t from d v later gone came) where
      same_action : may.action ≡ r.action
      same_action = one_action program t from d ready r.action may.action may.rest reserved is.next right follows may.derives

      -- what the behaviour becomes is what the next tree stands for
      pub derives_then : Derives program (stands_for program t) d r.action (stands_for program v)
      derives_then =
          subst (Derives program (stands_for program t) d r.action) (sym (step.stands right follows may.action may.rest may.derives))
          (subst (λ a. Derives program (stands_for program t) d a may.rest) same_action may.derives)

      pub agreed_then : IsAgreed program s r.action by
      agreed_then = subst (λ a. IsAgreed program s a by) same_action may.agreed

      pub acts : (clients : ℕ) (log logs : List Entry) → logs ≡ log ++ entry ∷ [] → IsRecord program clients (map event_of log) s →
          IsRecord program clients (map event_of logs) (state_with program v r.state)
      acts clients log logs e h =
          goes_on program clients log logs entry s (state_with program v r.state) e
          (subst (λ z. IsPossible program s z (state_with program v r.state)) (sym its)
          (stands_for program v, derives_then, agreed_then, state_then))
          h
