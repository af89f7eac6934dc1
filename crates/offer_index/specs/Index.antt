-- The composites of a tree of nodes of which every participant is expanded, gate by gate. (This profile.)
use Rattle.std.specs.Prelude.{ℕ, ◌≡◌, ◌<◌, ◌≤◌, ◌==◌, List, [], map, filter, Option, Some, None, Bool, true, false}
use Rattle.spec_core.specs.Code.{Program}
use Rattle.rule_model.specs.Actions.{Kind, inside, ends, at_gate}
use Rattle.symbolic_rules.specs.Windows.{Windows}
use Rattle.symbolic_plans.specs.declared.composite.OpenComposite.{OpenComposite}
use Rattle.symbolic_plans.specs.OpenPlans.{OpenPlan, open_plan_of}
use Rattle.node_trees.specs.Shapes.{Shape}
use Rattle.candidate_composites.specs.Kept.{some_waits}
use Rattle.candidate_composites.specs.Known.{made, placed_plans, expanded_plans}
use Rattle.candidate_count.specs.Counts.{limited, offers_limit, offers_of_tree}

-- the action is at the gate; where none is given, it is internal or the termination
abbrev pub is_at : Option ℕ → Kind → Bool
is_at None inside = true
is_at None ends = true
is_at None (at_gate h) = false
is_at (Some g) inside = false
is_at (Some g) ends = false
is_at (Some g) (at_gate h) = g == h

-- those of the plans that are at a gate, in their order
abbrev pub plans_at : Option ℕ → List OpenPlan → List OpenPlan
plans_at gate ps = filter (λ (p : OpenPlan). is_at gate p.kind) ps

-- what contracts see of an index: how many possible agreements there are, as they are counted; and the composites that it lists
pub record IndexView : Type 0 where
  pub total : ℕ
  pub composites : List OpenComposite

-- what composites stand for
abbrev pub plans_of : List OpenComposite → List OpenPlan
plans_of cs = map open_plan_of cs

-- these are all, where there aren't more possible agreements than are looked at; else there are none
pub record Lists (total : ℕ) (these all : List OpenPlan) : Type 0 where
  pub few : total ≤ offers_limit → these ≡ all
  pub many : offers_limit < total → these ≡ []

-- The index of a tree: how many possible agreements the tree has; at each gate the plans of its composites there, of those of which every
-- participant is an expanded node; and where no node waits, these are all plans of the tree.
pub record IsIndexOf (program : Program) (w : Windows) (t : Shape) (i : IndexView) : Type 0 where
  pub total : i.total ≡ limited (offers_of_tree program w t)
  pub offers : (gate : Option ℕ) → Lists i.total (plans_at gate (plans_of i.composites)) (plans_at gate (expanded_plans program.theory t))
  pub whole : i.total ≤ offers_limit → some_waits t ≡ false → map made (plans_of i.composites) ≡ placed_plans program.theory t
