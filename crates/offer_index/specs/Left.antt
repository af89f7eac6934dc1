-- What is left of the composites of an index at a gate.
use Rattle.std.specs.Prelude.{ℕ, List, Option, option_map}
use Rattle.spec_core.specs.declared.items.Gate.{Gate}
use Rattle.spec_core.specs.Numbers.{gate_number}
use Rattle.symbolic_plans.specs.OpenPlans.{OpenPlan}
use Rattle.offer_index.specs.declared.index.Offers.{Offers}
use Rattle.offer_index.specs.Index.{plans_at, plans_of}

-- the number of the gate
abbrev pub gate_of : Option Gate → Option ℕ
gate_of gate = option_map gate_number gate

-- the plans at the gate that are still ahead
abbrev pub plans_left : Offers → List OpenPlan
plans_left s = plans_at (gate_of s.gate) (plans_of s.composites.now)
