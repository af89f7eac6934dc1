-- Laws of trees, where the answers about data and code are exact.
use Rattle.std.specs.Prelude.{◌≡◌, List, Option, Bool}
use Rattle.spec_core.specs.Code.{Program}
use Rattle.rule_model.specs.declared.offer.Offer.{Offer}
use Rattle.rule_model.specs.Actions.{Kind}
use Rattle.rule_model.specs.Behaviours.{Behaviour}
use Rattle.rule_model.specs.Derivations.{Derivation}
use Rattle.symbolic_rules.specs.Windows.{Windows}
use Rattle.symbolic_rules.specs.MarkedTerms.{MarkedAssignment}
use Rattle.symbolic_rules.specs.MarkedFields.{MarkedField}
use Rattle.symbolic_rules.specs.MayDerive.{MayDeriveWith}
use Rattle.symbolic_composites.specs.Evaluations.{Evaluation, IsExact}
use Rattle.symbolic_composites.specs.Laws.{TestsSeen}

-- By one tree a behaviour may do an action of one kind with one list of fields.
abbrev pub TreesShowOneAction : Type 0
TreesShowOneAction =
    (program : Program) (e : Evaluation) (w : Windows) →
    IsExact program e →
    (m : MarkedAssignment) (b : Behaviour) (d : Derivation) (k j : Kind) (fs gs : List MarkedField) →
    MayDeriveWith program w m b d k fs →
    MayDeriveWith program w m b d j gs →
    (k ≡ j) × (fs ≡ gs)

-- some test says which trees are seen
abbrev pub SeenCanBeTested : Type 0
SeenCanBeTested =
    (program : Program) (e : Evaluation) (w : Windows) →
    IsExact program e →
    (b : Behaviour) (o : Option Offer) →
    (is_seen : Derivation → Bool) × TestsSeen program w b o is_seen
