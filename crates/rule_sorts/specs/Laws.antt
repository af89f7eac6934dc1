-- What follows from the definitions.
use Rattle.std.specs.Prelude.{ℕ, List}
use Rattle.spec_core.specs.Code.{Program}
use Rattle.spec_core.specs.Ready.{IsReady}
use Rattle.spec_core.specs.Sorts.{no_variables}
use Rattle.rule_model.specs.Behaviours.{Behaviour}
use Rattle.rule_model.specs.Code.{IsStart}
use Rattle.rule_model.specs.Events.{Event}
use Rattle.rule_model.specs.Legal.{IsDerivation}
use Rattle.rule_model.specs.States.{State, start_state}
use Rattle.rule_sorts.specs.Fitting.{BehaviourFits, HasFewGates}

-- Where a log leads from the specification's behaviour to a state, the behaviour fits that is reached.
abbrev pub ReachedBehavioursFit : Type 0
ReachedBehavioursFit =
    (program : Program) → IsReady program → HasFewGates program →
    (start : Behaviour) → IsStart program start →
    (clients : List ℕ) (log : List Event) (s : State) → IsDerivation program log (start_state start clients) s →
    BehaviourFits program no_variables s.behaviour
