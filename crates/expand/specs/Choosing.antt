-- What comes of some of the values that a choice of a value may have.
use Rattle.std.specs.Prelude.{ℕ, ◌≡◌, ◌+◌, ◌++◌, ◌∷◌, [], List, flat_map, map, sum_by, Result, Ok, Err}
use Rattle.spec_core.specs.Lists.{Each}
use Rattle.spec_core.specs.Theories.{Theory}
use Rattle.spec_core.specs.Code.{Program, Variable}
use Rattle.rule_model.specs.declared.rules.Slot.{Slot}
use Rattle.rule_model.specs.Behaviours.{Behaviour, value_choice}
use Rattle.symbolic_rules.specs.Windows.{Windows}
use Rattle.symbolic_rules.specs.MarkedTerms.{MarkedTerm, MarkedAssignment, with_marked}
use Rattle.symbolic_rules.specs.MarkedFields.{chosen_by, IsWithin, Chooses}
use Rattle.symbolic_composites.specs.Evaluations.{Evaluation, IsExact, chosen_term}
use Rattle.symbolic_composites.specs.Composites.{from_option}
use Rattle.symbolic_composites.specs.OpenFields.{window_slots}
use Rattle.symbolic_plans.specs.declared.scheme.Row.TheVariants.{Val}
use Rattle.symbolic_plans.specs.OpenPlans.{OpenPlan, under_row}
use Rattle.symbolic_reach.specs.Spread.{number_of}
use Rattle.node_values.specs.declared.stop.Stop.{Stop}
use Rattle.expand.specs.declared.outcome.Expanded.{Expanded}
use Rattle.expand.specs.Outcomes.{plans_in, AsksReached, plans_with, spread_with, IsReached, Stopped}

module _ (program : Program) (w : Windows) (n : ℕ) (m : MarkedAssignment) (x : Variable) (b : Behaviour) where
  -- the plans of the body with what a slot chooses for the variable, and their spread
  abbrev pub plans_at : Evaluation → Slot → List OpenPlan
  plans_at e slot =
      from_option (chosen_term program.theory e w slot x.sort)
      (λ k. map (under_row (Val slot)) (plans_with program w n e (with_marked x k m) b))

  abbrev pub spread_at : Evaluation → Slot → ℕ
  spread_at e slot = number_of (chosen_term program.theory e w slot x.sort) (λ k. spread_with program w n e (with_marked x k m) b)

  -- the same of the body with each of these slots, with one more in the spread
  pub record ExpandsEach (slots : List Slot) (ps : List OpenPlan) (k : ℕ) : Type 0 where
    pub plans : (e : Evaluation) → IsExact program e → ps ≡ flat_map (plans_at e) slots
    pub spread : (e : Evaluation) → IsExact program e → k ≡ 1 + sum_by (spread_at e) slots
    pub asked : Each (AsksReached program (IsReached program w n m (value_choice x b)) m (value_choice x b)) ps

-- what the slot chooses may be seen
pub record IsChoice (theory : Theory) (w : Windows) (sort : ℕ) (slot : Slot) (k : MarkedTerm) : Type 0 where
  pub chooses : Chooses theory w slot sort k
  pub within : IsWithin theory w (chosen_by k)

-- the first list begins the second
abbrev pub IsPrefix : List Slot → List Slot → Type 0
IsPrefix slots all = (rest : List Slot) × (slots ++ rest ≡ all)

-- the body is expanded with each of these slots; or it is said why not
abbrev pub Added : (program : Program) (w : Windows) (n budget : ℕ) (m : MarkedAssignment) (x : Variable) (b : Behaviour) → List Slot →
    Result Expanded Stop → Type 0
Added program w n budget m x b slots (Ok y) = ExpandsEach program w n m x b slots (plans_in y) y.spread
Added program w n budget m x b slots (Err s) = Stopped program w n budget m (value_choice x b) s

-- With one more slot behind any that began the window's, the body is expanded with each of these; or it is said why not. The plans and
-- the spread are those of the slots before.
abbrev pub AddsChoice : (program : Program) (w : Windows) (n budget : ℕ) (m : MarkedAssignment) (x : Variable) (b : Behaviour) →
    List OpenPlan → ℕ → Slot → Result Expanded Stop → Type 0
AddsChoice program w n budget m x b ps k slot r =
    (slots : List Slot) → IsPrefix (slots ++ slot ∷ []) (window_slots w x.sort) → ExpandsEach program w n m x b slots ps k →
    Added program w n budget m x b (slots ++ slot ∷ []) r
