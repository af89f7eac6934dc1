-- The plans of the composites of a tree of nodes, of which not all are expanded. (This profile.)
use Rattle.std.specs.Prelude.{ℕ, ◌++◌, List, [], ◌∷◌, map, flat_map, Option, Some, None, Bool, true, false, if◌then◌else◌}
use Rattle.std.specs.Fn.{iterate}
use Rattle.spec_core.specs.Theories.{Theory}
use Rattle.spec_core.specs.Code.{Synchronised, synchronised_of}
use Rattle.decision_trees.specs.Gaps.{OrGap, element, gap, in_its_place}
use Rattle.symbolic_composites.specs.Kinds.{is_joint}
use Rattle.symbolic_plans.specs.declared.scheme.Row.{Row}
use Rattle.symbolic_plans.specs.declared.scheme.Row.TheVariants.{Chl, Chr, Parl, Parr, Distake}
use Rattle.symbolic_plans.specs.Plans.{below}
use Rattle.symbolic_plans.specs.OpenPlans.{OpenPlan, open_plan_of, kind_in, under_row, under_relabelling, plans_alone, plans_joint}
use Rattle.symbolic_plans.specs.OpenPlans.{plan_by_hiding}
use Rattle.symbolic_plans.specs.OpenPlans.{plan_by_enabling, plan_by_disabling}
use Rattle.node_trees.specs.Rests.{Work}
use Rattle.node_trees.specs.Shapes.{Shape, leaf, ended, over, between, Unary, unary_of, hidden, relabelled, enabled, Binary, choosing}
use Rattle.node_trees.specs.Shapes.{beside, disabling}
use Rattle.candidate_laws.specs.Sought as sought
use Rattle.candidate_laws.specs.Sought.{is_sought, seeks_some, under_one, by_itself, with_another, as_another, these_kinds, every_kind}
use Rattle.candidate_laws.specs.Sought.{sought_at}
use Rattle.candidate_composites.specs.declared.sought.Sought.{Sought}
use Rattle.candidate_composites.specs.declared.sought.Sought.TheVariants.{Every, These}
use Rattle.candidate_composites.specs.declared.step.Step.{Step}
use Rattle.candidate_composites.specs.declared.step.Step.TheVariants.{Under, Alone, Together, Beside}
use Rattle.candidate_composites.specs.declared.found.Given.{Given}
use Rattle.candidate_composites.specs.declared.found.Given.TheVariants.{Own, Beneath, Made}
use Rattle.candidate_composites.specs.declared.found.Found.{Found}
use Rattle.candidate_composites.specs.declared.found.Found.TheVariants as found
use Rattle.candidate_composites.specs.declared.part.Part.{Part}
use Rattle.candidate_composites.specs.declared.part.Part.TheVariants.{Gap, Composite}

-- a plan, or the generation of a node that isn't expanded
abbrev pub PlanOrGap : Type 0
PlanOrGap = OrGap OpenPlan

-- a plan; or the generation of a node that isn't expanded, with the steps from it up to the whole, the lowest first
pub data PlacedPlan : Type 0 where
  made : OpenPlan → PlacedPlan
  awaited : ℕ → List sought.Step → PlacedPlan

-- without the steps
abbrev pub plan_or_gap : PlacedPlan → PlanOrGap
plan_or_gap (made p) = element p
plan_or_gap (awaited g steps) = gap g

-- there is a plan among them
abbrev pub has_made : List PlacedPlan → Bool
has_made [] = false
has_made (made p ∷ ps) = true
has_made (awaited g steps ∷ ps) = has_made ps

-- those of whose actions some kind is sought at the whole
abbrev pub plans_sought : sought.Sought → PlacedPlan → List PlanOrGap
plans_sought v (made p) = if is_sought v p.kind then element p ∷ [] else []
plans_sought v (awaited g steps) = if seeks_some (sought_at steps v) then gap g ∷ [] else []

-- what values of the program stand for

abbrev pub sought_in : Sought → sought.Sought
sought_in Every = every_kind
sought_in (These kinds) = these_kinds (map kind_in kinds.items)

abbrev pub step_of : Step → sought.Step
step_of (Under o) = under_one (unary_of o.now)
step_of (Alone gates) = by_itself (synchronised_of gates.now)
step_of (Together gates) = with_another (synchronised_of gates.now)
step_of (Beside kind) = as_another (kind_in kind)

abbrev pub placed_of : Part → PlacedPlan
placed_of (Gap generation steps) = awaited generation.0 (map step_of steps.items)
placed_of (Composite c) = made (open_plan_of c)

-- under a rule, and that rule so many times more over it
abbrev pub under_run : Row → ℕ → OpenPlan → OpenPlan
under_run row more p = record { kind = p.kind; fields = p.fields; plan = below row (iterate (below row) more p.plan) }

abbrev pub own_or_made : Given → OpenPlan
own_or_made (Own c) = open_plan_of c.now
own_or_made (Beneath row more c) = under_run row more (open_plan_of c.now)
own_or_made (Made c) = open_plan_of c

abbrev pub found_of : Found → PlacedPlan
found_of (found.Gap generation steps) = awaited generation.0 (map step_of steps.items)
found_of (found.Composite c) = made (own_or_made c)

-- another plan in the place of a plan; a gap stays
abbrev pub turned : (OpenPlan → OpenPlan) → PlanOrGap → PlanOrGap
turned f (element p) = element (f p)
turned f (gap g) = gap g

-- other plans in the place of each plan
abbrev pub each_turned : (OpenPlan → List OpenPlan) → List PlanOrGap → List PlanOrGap
each_turned f ps = flat_map (in_its_place (λ p. map element (f p))) ps

-- the plan of an operator over one part
abbrev pub over_one : Unary → OpenPlan → OpenPlan
over_one (hidden gates) p = plan_by_hiding gates p
over_one (relabelled pairs) p = under_relabelling pairs p
over_one (enabled xs right values) p = plan_by_enabling p

-- the plans of a node
abbrev pub plans_at : ℕ → Option Work → List PlanOrGap
plans_at g None = gap g ∷ []
plans_at g (Some work) = map element work.plans

module _ (theory : Theory) where
  -- a plan of the left side of a parallel composition together with each of the right side; only a joint one meets the gaps there
  abbrev pub partners : Synchronised → List PlanOrGap → OpenPlan → List PlanOrGap
  partners gates qs p = if is_joint gates p.kind then each_turned (plans_joint theory gates p) qs else []

  -- the plans of an operator over two parts
  abbrev pub over_two : Binary → List PlanOrGap → List PlanOrGap → List PlanOrGap
  over_two choosing ps qs = map (turned (under_row Chl)) ps ++ map (turned (under_row Chr)) qs
  over_two (beside gates) ps qs =
      each_turned (plans_alone gates Parl) ps ++
      (each_turned (plans_alone gates Parr) qs ++ flat_map (in_its_place (partners gates qs)) ps)
  over_two disabling ps qs = map (turned plan_by_disabling) ps ++ map (turned (under_row Distake)) qs

  -- the plans of a tree, in the order of trees, and a gap in the place of each node that isn't expanded
  abbrev pub known_plans : Shape → List PlanOrGap
  known_plans (leaf n) = plans_at n.generation n.work
  known_plans ended = []
  known_plans (over o x) = map (turned (over_one o)) (known_plans x)
  known_plans (between o x y) = over_two o (known_plans x) (known_plans y)

-- The same, with the steps from each gap up to the whole.

-- other plans in the place of a plan; a gap is a step further down
abbrev pub stepped : sought.Step → (OpenPlan → List PlacedPlan) → PlacedPlan → List PlacedPlan
stepped step f (made p) = f p
stepped step f (awaited g steps) = awaited g (steps ++ step ∷ []) ∷ []

-- another plan in the place of a plan, without a step
abbrev pub turned_there : (OpenPlan → OpenPlan) → PlacedPlan → PlacedPlan
turned_there f (made p) = made (f p)
turned_there f (awaited g steps) = awaited g steps

abbrev pub placed_over_one : Unary → PlacedPlan → PlacedPlan
placed_over_one o (made p) = made (over_one o p)
placed_over_one o (awaited g steps) = awaited g (steps ++ under_one o ∷ [])

abbrev pub placed_alone : Synchronised → Row → List PlacedPlan → List PlacedPlan
placed_alone gates row ps = flat_map (stepped (by_itself gates) (λ p. map made (plans_alone gates row p))) ps

abbrev pub placed_at : ℕ → Option Work → List PlacedPlan
placed_at g None = awaited g [] ∷ []
placed_at g (Some work) = map made work.plans

module _ (theory : Theory) where
  abbrev pub placed_partners : Synchronised → List PlacedPlan → OpenPlan → List PlacedPlan
  placed_partners gates qs p =
      if is_joint gates p.kind
      then flat_map (stepped (as_another p.kind) (λ q. map made (plans_joint theory gates p q))) qs
      else []

  abbrev pub placed_over_two : Binary → List PlacedPlan → List PlacedPlan → List PlacedPlan
  placed_over_two choosing ps qs = map (turned_there (under_row Chl)) ps ++ map (turned_there (under_row Chr)) qs
  placed_over_two (beside gates) ps qs =
      placed_alone gates Parl ps ++
      (placed_alone gates Parr qs ++ flat_map (stepped (with_another gates) (placed_partners gates qs)) ps)
  placed_over_two disabling ps qs = map (turned_there plan_by_disabling) ps ++ map (turned_there (under_row Distake)) qs

  abbrev pub placed_plans : Shape → List PlacedPlan
  placed_plans (leaf n) = placed_at n.generation n.work
  placed_plans ended = []
  placed_plans (over o x) = map (placed_over_one o) (placed_plans x)
  placed_plans (between o x y) = placed_over_two o (placed_plans x) (placed_plans y)

  -- of the plans and gaps of a tree those of whose actions some kind is sought
  abbrev pub sought_plans : Shape → sought.Sought → List PlanOrGap
  sought_plans t v = flat_map (plans_sought v) (placed_plans t)

-- Of those the ones of which every participant is an expanded node.

-- the plan, where it is no gap
abbrev pub plans_in : PlacedPlan → List OpenPlan
plans_in (made p) = p ∷ []
plans_in (awaited g steps) = []

-- the plans of a tree's composites of which every participant is an expanded node, in the order of trees of rules
abbrev pub expanded_plans : Theory → Shape → List OpenPlan
expanded_plans theory t = flat_map plans_in (placed_plans theory t)
