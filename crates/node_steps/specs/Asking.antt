-- The terms whose values are asked of a part that was entered.
use Rattle.std.specs.Prelude.{ℕ, List, Option, Some, None}
use Rattle.spec_core.specs.Terms.{TermTree}
use Rattle.spec_core.specs.Code.{Program}
use Rattle.symbolic_plans.specs.Plans.{Plan}
use Rattle.rule_origins.specs.Values.{assignment}
use Rattle.symbolic_reach.specs.Asking.{PlanAsks}
use Rattle.node_steps.specs.declared.turn.Entered.{Entered}
use Rattle.node_steps.specs.Parts.{own_or}
use Rattle.node_steps.specs.Frames.{standing}

-- where the part was entered, some expression on the way of the plan's trees is this term
abbrev pub WithinAsks : Program → List (ℕ × List ℕ) → Option Entered → Plan → TermTree → Type 0
WithinAsks program values None p x = ⊥
WithinAsks program values (Some e) p x =
    PlanAsks program p (assignment program.theory (own_or values e.values)) (standing program e.site) x
