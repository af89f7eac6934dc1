-- What follows from the definitions.
use Rattle.std.specs.Prelude.{ℕ, List}
use Rattle.spec_core.specs.Code.{Program}
use Rattle.spec_core.specs.Ready.{IsReady}
use Rattle.rule_model.specs.declared.action.Action.{Action}
use Rattle.rule_model.specs.Actions.{kind_of}
use Rattle.rule_model.specs.Behaviours.{Behaviour}
use Rattle.rule_model.specs.Code.{IsStart}
use Rattle.rule_model.specs.Derivations.{Derivation}
use Rattle.rule_model.specs.Derives.{Derives}
use Rattle.rule_model.specs.Events.{Event}
use Rattle.rule_model.specs.Legal.{IsDerivation}
use Rattle.rule_model.specs.States.{State, start_state}
use Rattle.rule_gates.specs.Acting.{IsAt, IsOfHeading}

-- Where a log leads from the specification's behaviour to a state, what the behaviour can do then is internal, or the termination, or at a
-- gate of the heading.
abbrev pub ActionsAreAtGatesOfTheHeading : Type 0
ActionsAreAtGatesOfTheHeading =
    (program : Program) → IsReady program →
    (start : Behaviour) → IsStart program start →
    (clients : List ℕ) (log : List Event) (s : State) → IsDerivation program log (start_state start clients) s →
    (d : Derivation) (a : Action) (c : Behaviour) → Derives program s.behaviour d a c →
    IsAt (IsOfHeading program) (kind_of a)
