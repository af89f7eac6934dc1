-- How many possible agreements there are. (This profile.)
use Rattle.std.specs.Prelude.{ℕ, ◌+◌, ◌*◌, ◌&&◌, min, not, length, sum_by, List, [], ◌∷◌, Bool, true, false, if◌then◌else◌}
use Rattle.spec_core.specs.Code.{Program}
use Rattle.rule_model.specs.Actions.{Kind, inside, ends, at_gate}
use Rattle.rule_model.specs.Behaviours.{Behaviour}
use Rattle.symbolic_rules.specs.Windows.{Windows}
use Rattle.symbolic_rules.specs.MarkedTerms.{unmarked}
use Rattle.decision_trees.specs.Gaps.{element, gap}
use Rattle.symbolic_composites.specs.Evaluations.{Evaluation}
use Rattle.symbolic_composites.specs.OpenFields.{OpenField, fixed, blank}
use Rattle.symbolic_plans.specs.Plans.{Plan, prefix, internal, termination, below, hidden, handed_on, together}
use Rattle.symbolic_plans.specs.OpenPlans.{OpenPlan}
use Rattle.symbolic_plans.specs.OwnPlans.{own_plans}
use Rattle.node_trees.specs.Shapes.{Shape, stands_for}
use Rattle.candidate_composites.specs.Known.{PlanOrGap, known_plans}
use Rattle.candidate_count.specs.Predicates.{has_predicate}

-- the number of possible agreements up to which a session judges candidates
abbrev pub offers_limit : ℕ
offers_limit = 1048576

-- a number as it is counted: what is above the limit isn't told apart
abbrev pub limited : ℕ → ℕ
limited n = min n (offers_limit + 1)

-- an action at a gate
abbrev pub is_visible : Kind → Bool
is_visible inside = false
is_visible ends = false
is_visible (at_gate g) = true

module _ (w : Windows) where
  -- How many ways there are to fill a field: one where an expression tells its value, or gives a mark; else one for each value of its
  -- sort's window.
  abbrev pub ways_to_fill : OpenField → ℕ
  ways_to_fill (fixed m v) = 1
  ways_to_fill (blank true sort) = 1
  ways_to_fill (blank false sort) = length (w.values sort)

  abbrev pub tuples : List OpenField → ℕ
  tuples [] = 1
  tuples (f ∷ fields) = ways_to_fill f * tuples fields

  -- of an action that turned internal, by hiding or since it is handed on: the ways to fill the fields that were open until then
  abbrev pub turned_tuples : Plan → ℕ
  turned_tuples (prefix takes) = 1
  turned_tuples internal = 1
  turned_tuples (termination takes) = 1
  turned_tuples (below row p) = turned_tuples p
  turned_tuples (hidden fields p) = tuples fields
  turned_tuples (handed_on fields p) = tuples fields
  turned_tuples (together p q) = 1

module _ (program : Program) (w : Windows) (b : Behaviour) where
  -- How often a plan of the behaviour counts: once where its action is at a gate and none of its participants has a selection predicate,
  -- since then nothing tells one way to fill its fields from another; else once for each way.
  abbrev pub offers_of_plan : OpenPlan → ℕ
  offers_of_plan p =
      if is_visible p.kind && not (has_predicate program p.plan b) then 1 else tuples w p.fields * turned_tuples w p.plan

  abbrev pub offers_of_plans : List OpenPlan → ℕ
  offers_of_plans ps = sum_by offers_of_plan ps

  -- a gap counts nothing: of what it stands for not every participant is expanded
  abbrev pub offers_of_part : PlanOrGap → ℕ
  offers_of_part (element p) = offers_of_plan p
  offers_of_part (gap g) = 0

-- So many possible agreements has the closed behaviour: those of the plans that its constructs make.
abbrev pub offers : Program → Evaluation → Windows → Behaviour → ℕ
offers program e w b = offers_of_plans program w b (own_plans program.theory e w (length program.code) unmarked b)

-- the same of a tree of nodes, of those composites alone of which every participant is an expanded node
abbrev pub offers_of_tree : Program → Windows → Shape → ℕ
offers_of_tree program w t = sum_by (offers_of_part program w (stands_for program t)) (known_plans program.theory t)
