-- What holds of lists of trees where the specification is ready.
use Rattle.std.specs.Prelude.{ℕ, ◌≡◌, ◌↔◌, List, [], Option, Bool, length}
use Rattle.spec_core.specs.Lists.{IsOneOf}
use Rattle.spec_core.specs.Code.{Program}
use Rattle.spec_core.specs.Ready.{IsGuarded, IsReady}
use Rattle.rule_model.specs.declared.action.Action.{Action}
use Rattle.rule_model.specs.declared.offer.Offer.{Offer}
use Rattle.rule_model.specs.Actions.{Kind}
use Rattle.rule_model.specs.Behaviours.{Behaviour}
use Rattle.rule_model.specs.Derivations.{Derivation}
use Rattle.rule_model.specs.Derives.{Derives}
use Rattle.symbolic_rules.specs.Windows.{Windows, AreWindows}
use Rattle.symbolic_rules.specs.Trees.{MeetsIfOffered, IsSeen, IsWindowed, IsBeyond}
use Rattle.symbolic_composites.specs.Evaluations.{Evaluation, IsExact}
use Rattle.symbolic_composites.specs.TreeLists.{Nests, windowed_trees, beyond_trees}
use Rattle.symbolic_composites.specs.Laws.{TestsSeen}

-- there are exact answers for each specification that is ready
abbrev pub ExactAnswersExist : Type 0
ExactAnswersExist = (program : Program) → IsReady program → (e : Evaluation) × IsExact program e

-- where every cycle of calls passes an action, no more calls stand in one another than the code has constructs
abbrev pub CallsNestWithinTheCode : Type 0
CallsNestWithinTheCode =
    (program : Program) →
    IsGuarded program →
    (w : Windows) (b : Behaviour) (o : Option Offer) (d : Derivation) (k : Kind) →
    IsSeen program w b o d k →
    Nests (length program.code) d

-- the lists hold the windowed trees, and the beyond trees, of the behaviour for the offer, or for none
pub record AreTheTrees (program : Program) (w : Windows) (b : Behaviour) (o : Option Offer)
    (windowed beyond : List Derivation) : Type 0 where
  pub windowed_are : (d : Derivation) → IsOneOf d windowed ↔ ((k : Kind) × IsWindowed program w b o d k)
  pub beyond_are : (d : Derivation) → IsOneOf d beyond ↔ ((k : Kind) × IsBeyond program w b o d k)

-- the lists of a ready specification, with as many calls in one another as the code has constructs, hold all trees
abbrev pub ListsHoldAllTrees : Type 0
ListsHoldAllTrees =
    (program : Program) (e : Evaluation) (w : Windows) →
    IsReady program →
    IsExact program e →
    (b : Behaviour) (o : Option Offer) (is_seen : Derivation → Bool) →
    TestsSeen program w b o is_seen →
    AreTheTrees program w b o (windowed_trees program.theory e w (length program.code) b o is_seen)
    (beyond_trees program.theory e w (length program.code) b o is_seen)

-- each behaviour of a ready specification has such lists; where both are empty, there is no step, that meets the offer if there is one
abbrev pub ListsDecide : Type 0
ListsDecide =
    (program : Program) (size : ℕ) (w : Windows) →
    IsReady program →
    AreWindows program.theory size w →
    (b : Behaviour) (o : Option Offer) →
    (windowed beyond : List Derivation) × AreTheTrees program w b o windowed beyond ×
    (windowed ≡ [] → beyond ≡ [] →
    (d : Derivation) (a : Action) (c : Behaviour) → Derives program b d a c → MeetsIfOffered program.theory a o → ⊥)
