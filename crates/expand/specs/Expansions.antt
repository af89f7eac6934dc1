-- Expansions of behaviours.
use Rattle.std.specs.Prelude.{ℕ, ◌≡◌, ◌<◌, ◌≤◌, List, [], length}
use Rattle.spec_core.specs.Code.{Program}
use Rattle.spec_core.specs.Lists.{Each}
use Rattle.spec_core.specs.Terms.{TermTree}
use Rattle.rule_model.specs.Behaviours.{Behaviour}
use Rattle.rule_model.specs.Substitution.{Assignment}
use Rattle.symbolic_rules.specs.Windows.{Windows, AreWindows}
use Rattle.symbolic_rules.specs.MarkedTerms.{unmarked}
use Rattle.symbolic_composites.specs.Evaluations.{Evaluation, IsExact}
use Rattle.symbolic_plans.specs.OpenPlans.{OpenPlan}
use Rattle.symbolic_plans.specs.OwnPlans.{own_plans}
use Rattle.symbolic_reach.specs.Asking.{PlanAsks}
use Rattle.symbolic_reach.specs.Reached.{Reaches}
use Rattle.symbolic_reach.specs.Spread.{spread}
use Rattle.node_values.specs.declared.stop.Stop.{Stop}
use Rattle.node_values.specs.Stops.{Stops}

module _ (program : Program) (w : Windows) (b : Behaviour) where
  -- The plans are those that the closed behaviour's constructs make, in order, whichever exact answers about data and code they are made
  -- with. The spread is no more than what is looked at.
  pub record IsExpansion (ps : List OpenPlan) : Type 0 where
    pub plans : (e : Evaluation) → IsExact program e → ps ≡ own_plans program.theory e w (length program.code) unmarked b
    pub narrow : (e : Evaluation) → IsExact program e → spread program.theory e w (length program.code) unmarked b ≤ 65536

  -- the number is above what is looked at, and the spread is no less
  pub record IsTooWideFor (n : ℕ) : Type 0 where
    pub above : 65536 < n
    pub below : n ≤ 1048576
    pub spread_above : (e : Evaluation) → IsExact program e → n ≤ spread program.theory e w (length program.code) unmarked b

  -- Why there is no expansion: only a term that is reached has no value within the budget, or meets a value that is too large; the
  -- behaviour is too wide only with such a number. Want of memory is free.
  abbrev pub IsStop : ℕ → Stop → Type 0
  IsStop budget s = Stops program.theory budget (λ t. Reaches program w [] unmarked b t) IsTooWideFor s

module _ (program : Program) (k : ℕ) (b : Behaviour) where
  -- the same, where the windows hold the first k values of each sort
  abbrev pub IsStopAt : ℕ → Stop → Type 0
  IsStopAt budget s =
      Stops program.theory budget
      (λ t. (w : Windows) × AreWindows program.theory k w × Reaches program w [] unmarked b t)
      (λ n. (w : Windows) × AreWindows program.theory k w × IsTooWideFor program w b n) s

-- what is asked along the trees of each plan of the code, with these terms for its variables, is reached of the closed behaviour
abbrev pub AskReached : Program → Windows → Assignment → Behaviour → Behaviour → List OpenPlan → Type 0
AskReached program w s code closed ps =
    Each (λ p. (t : TermTree) → PlanAsks program p.plan s code t → Reaches program w [] unmarked closed t) ps
