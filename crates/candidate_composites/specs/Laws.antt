-- What follows from the definitions.
use Rattle.std.specs.Prelude.{ℕ, ◌≡◌, List, map, Option, option_map}
use Rattle.spec_core.specs.Lists.{IsOneOf}
use Rattle.spec_core.specs.Theories.{Theory}
use Rattle.symbolic_rules.specs.Windows.{Windows}
use Rattle.decision_trees.specs.Gaps.{OrGap, element, gap, with_gaps}
use Rattle.symbolic_composites.specs.Composites.{Composite}
use Rattle.symbolic_plans.specs.OpenPlans.{composite_of}
use Rattle.symbolic_plans.specs.Laws.{composites_of}
use Rattle.candidate_laws.specs.Sought.{Sought}
use Rattle.candidate_laws.specs.Waiting.{waiting_composites}
use Rattle.node_trees.specs.Rests.{Work}
use Rattle.node_trees.specs.Shapes.{Above, Held, Shape, Stands}
use Rattle.candidate_composites.specs.Known.{PlanOrGap, known_plans, sought_plans}

module _ (theory : Theory) (w : Windows) where
  -- the composite with the trees of a plan
  abbrev pub composite_or_gap : PlanOrGap → OrGap Composite
  composite_or_gap (element p) = element (composite_of theory w p)
  composite_or_gap (gap g) = gap g

  -- what is known of each node is what its expansion says
  abbrev pub AreExpanded : (ℕ → Option (List Composite)) → Shape → Type 0
  AreExpanded items t = (up : List Above) (n : Held) → Stands t up n →
      items n.generation ≡ option_map (λ (x : Work). composites_of theory w x.plans) n.work

-- The plans of a tree whose actions are sought make its composites whose actions are sought, with the same gaps.
abbrev pub KnownPlansAreThose : Type 0
KnownPlansAreThose =
    (theory : Theory) (w : Windows) (items : ℕ → Option (List Composite)) (t : Shape) →
    AreExpanded theory w items t →
    (v : Sought) →
    map (composite_or_gap theory w) (sought_plans theory t v) ≡ with_gaps items (waiting_composites theory w t v)

-- what is sought of a tree is among all that is known of it
abbrev pub SoughtPlansAreKnown : Type 0
SoughtPlansAreKnown =
    (theory : Theory) (t : Shape) (v : Sought) (x : PlanOrGap) →
    IsOneOf x (sought_plans theory t v) →
    IsOneOf x (known_plans theory t)
