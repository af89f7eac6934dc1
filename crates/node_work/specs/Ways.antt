-- Ways to act for the trees of plans.
use Rattle.std.specs.Prelude.{◌≡◌, ◌++◌, List}
use Rattle.spec_core.specs.Code.{Program}
use Rattle.spec_core.specs.Lists.{Each, OneOf, IsOneOf}
use Rattle.spec_core.specs.Terms.{TermTree}
use Rattle.rule_model.specs.declared.action.Action.{Action}
use Rattle.rule_model.specs.declared.rules.Slot.{Slot}
use Rattle.rule_model.specs.Behaviours.{Behaviour}
use Rattle.rule_model.specs.Derivations.{Derivation}
use Rattle.rule_model.specs.Derives.{Derives}
use Rattle.rule_model.specs.Substitution.{Assignment}
use Rattle.symbolic_rules.specs.Windows.{Windows}
use Rattle.symbolic_plans.specs.OpenPlans.{OpenPlan}
use Rattle.symbolic_plans.specs.Plans.{trees_of}
use Rattle.symbolic_reach.specs.Asking.{PlanAsks}
use Rattle.node_trees.specs.Rests.{Way, slots_of, Fills, IsWayOf}
use Rattle.node_steps.specs.Laws.{IsGiven}

-- each tree of the plan that chooses values alone, and by which the behaviour does something, fills one of the ways
abbrev pub HasWays : Program → Behaviour → List Way → OpenPlan → Type 0
HasWays program b ways p =
    (w : Windows) (slots : List (List Slot)) (d : Derivation) (a : Action) (c : Behaviour) →
    IsOneOf d (trees_of program.theory w p.plan slots) →
    Each IsGiven (slots_of d) →
    Derives program b d a c →
    OneOf (λ way. Fills way.rules d) ways

-- some expression on the way of a plan's trees is this term
abbrev pub PlansAsk : Program → Assignment → Behaviour → List OpenPlan → TermTree → Type 0
PlansAsk program s b ps t = OneOf (λ p. PlanAsks program p.plan s b t) ps

-- These are the ways, and behind them that of the plan, if the behaviour does something by one of its trees.
pub record AddsWay (program : Program) (b : Behaviour) (p : OpenPlan) (ways all : List Way) : Type 0 where
  pub added : (more : List Way) × (all ≡ ways ++ more) × Each (IsWayOf program b) more
  pub complete : HasWays program b all p
