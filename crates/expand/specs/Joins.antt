-- What operators make of the expansions of their parts.
use Rattle.std.specs.Prelude.{ℕ, ◌≡◌, ◌+◌, ◌<◌, ◌++◌, List, map, Result, Ok, Err}
use Rattle.rule_model.specs.declared.rules.Slot.{Slot}
use Rattle.symbolic_plans.specs.declared.scheme.Row.TheVariants.{Val}
use Rattle.symbolic_plans.specs.OpenPlans.{OpenPlan, under_row}
use Rattle.node_values.specs.declared.stop.Stop.{Stop}
use Rattle.node_values.specs.declared.stop.Stop.TheVariants.{Spent, TooLarge, Wide, Memory}
use Rattle.expand.specs.declared.outcome.Expanded.{Expanded}
use Rattle.expand.specs.Outcomes.{plans_in}

-- there are more operators and actions than are looked at, or memory is wanting
abbrev pub OnlyWide : ℕ → Stop → Type 0
OnlyWide k (Spent term) = ⊥
OnlyWide k (TooLarge term) = ⊥
OnlyWide k (Wide n) = (n ≡ 65537) × (65536 < k)
OnlyWide k Memory = Unit {0}

-- these plans and this spread, or the spread is too wide
abbrev pub Sized : List OpenPlan → ℕ → Result Expanded Stop → Type 0
Sized ps k (Ok x) = (plans_in x ≡ ps) × (x.spread ≡ k)
Sized ps k (Err s) = OnlyWide k s

-- the stop of a part is handed on
abbrev pub HandedOn : Stop → Result Expanded Stop → Type 0
HandedOn s (Ok x) = ⊥
HandedOn s (Err t) = t ≡ s

-- what f makes of the plans of the part, and g of its spread
abbrev pub Turns : (List OpenPlan → List OpenPlan) → (ℕ → ℕ) → Result Expanded Stop → Result Expanded Stop → Type 0
Turns f g (Ok x) r = Sized (f (plans_in x)) (g x.spread) r
Turns f g (Err s) r = HandedOn s r

-- what f makes of the plans of two parts, with one more in the spread
abbrev pub Joins : (List OpenPlan → List OpenPlan → List OpenPlan) → Result Expanded Stop → Result Expanded Stop →
    Result Expanded Stop → Type 0
Joins f (Ok x) (Ok y) r = Sized (f (plans_in x) (plans_in y)) (1 + (x.spread + y.spread)) r
Joins f (Ok x) (Err s) r = HandedOn s r
Joins f (Err s) y r = HandedOn s r

-- what is there already, with the plans of a part under the choice of a value
abbrev pub Adds : Slot → List OpenPlan → ℕ → Result Expanded Stop → Result Expanded Stop → Type 0
Adds slot ps k (Ok y) r = Sized (ps ++ map (under_row (Val slot)) (plans_in y)) (k + y.spread) r
Adds slot ps k (Err s) r = HandedOn s r
