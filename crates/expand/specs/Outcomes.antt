-- What comes of expanding a behaviour with what is known for its variables.
use Rattle.std.specs.Prelude.{ℕ, zero, suc, ◌≡◌, ◌<◌, List, [], map, Result, Ok, Err}
use Rattle.spec_core.specs.Lists.{Each}
use Rattle.spec_core.specs.Terms.{TermTree}
use Rattle.spec_core.specs.Code.{Program}
use Rattle.rule_model.specs.Behaviours.{Behaviour}
use Rattle.rule_model.specs.Substitution.{Assignment}
use Rattle.symbolic_rules.specs.Windows.{Windows}
use Rattle.symbolic_rules.specs.MarkedTerms.{MarkedAssignment, AllPlain}
use Rattle.symbolic_composites.specs.Evaluations.{Evaluation, IsExact}
use Rattle.symbolic_plans.specs.OpenPlans.{OpenPlan, open_plan_of}
use Rattle.symbolic_plans.specs.OwnPlans.{own_plans_in, own_plans_below}
use Rattle.symbolic_reach.specs.Asking.{PlanAsks}
use Rattle.symbolic_reach.specs.Reached.{ReachesIn, ReachesBelow}
use Rattle.symbolic_reach.specs.Spread.{spread_in, spread_below}
use Rattle.node_values.specs.declared.stop.Stop.{Stop}
use Rattle.node_values.specs.Stops.{Stops}
use Rattle.expand.specs.declared.outcome.Expanded.{Expanded}

abbrev pub plans_in : Expanded → List OpenPlan
plans_in x = map open_plan_of x.composites.items

-- what is asked along the trees of a plan is reached, where no variable has a mark
abbrev pub AsksReached : Program → (TermTree → Type 0) → MarkedAssignment → Behaviour → OpenPlan → Type 0
AsksReached program R m b p = (s : Assignment) (t : TermTree) → AllPlain m s → PlanAsks program p.plan s b t → R t

-- In this module no more than n calls are inside one another.
module _ (program : Program) (w : Windows) (n : ℕ) where
  abbrev pub plans_with : Evaluation → MarkedAssignment → Behaviour → List OpenPlan
  plans_with e m b = own_plans_in program.theory e w (own_plans_below program.theory e w n) m b

  abbrev pub spread_with : Evaluation → MarkedAssignment → Behaviour → ℕ
  spread_with e m b = spread_in program.theory e w (spread_below program.theory e w n) m b

  abbrev pub IsReached : MarkedAssignment → Behaviour → TermTree → Type 0
  IsReached m b t = ReachesIn program w [] (ReachesBelow program w [] n) m b t

  -- The plans that the behaviour's constructs make, and its spread, whichever exact answers about data and code they are made with. What is
  -- asked along the trees of the plans is reached.
  pub record Expands (m : MarkedAssignment) (b : Behaviour) (ps : List OpenPlan) (k : ℕ) : Type 0 where
    pub plans : (e : Evaluation) → IsExact program e → ps ≡ plans_with e m b
    pub spread : (e : Evaluation) → IsExact program e → k ≡ spread_with e m b
    pub asked : Each (AsksReached program (IsReached m b) m b) ps

  -- the number is one above what is looked at, and the spread is above it too
  abbrev pub IsTooWide : MarkedAssignment → Behaviour → ℕ → Type 0
  IsTooWide m b k = (k ≡ 65537) × ((e : Evaluation) → IsExact program e → 65536 < spread_with e m b)

  abbrev pub Stopped : ℕ → MarkedAssignment → Behaviour → Stop → Type 0
  Stopped budget m b s = Stops program.theory budget (IsReached m b) (IsTooWide m b) s

  -- the behaviour is expanded; or it is said why not
  abbrev pub Outcome : ℕ → MarkedAssignment → Behaviour → Result Expanded Stop → Type 0
  Outcome budget m b (Ok x) = Expands m b (plans_in x) x.spread
  Outcome budget m b (Err s) = Stopped budget m b s

-- the same below a call, where with no call left there is nothing
abbrev pub BelowOutcome : Program → Windows → ℕ → ℕ → MarkedAssignment → Behaviour → Result Expanded Stop → Type 0
BelowOutcome program w zero budget m b (Ok x) = (plans_in x ≡ []) × (x.spread ≡ 0)
BelowOutcome program w zero budget m b (Err s) = Stops program.theory budget (λ t. ⊥) (λ k. ⊥) s
BelowOutcome program w (suc n) budget m b r = Outcome program w n budget m b r
