-- Composites with the plans of their trees, and the operators over lists of them.
use Rattle.std.specs.Prelude.{ℕ, suc, ◌++◌, ◌&&◌, List, [], ◌∷◌, map, flat_map, if◌then◌else◌}
use Rattle.spec_core.specs.Theories.{Theory}
use Rattle.spec_core.specs.Code.{Relabelling, Synchronised}
use Rattle.rule_model.specs.Actions.{Kind, inside, ends, at_gate}
use Rattle.symbolic_rules.specs.Windows.{Windows}
use Rattle.symbolic_rules.specs.MayDerive.{renamed_kind}
use Rattle.symbolic_composites.specs.Kinds.{is_alone, is_joint, is_hidden, is_end, same_kind}
use Rattle.symbolic_composites.specs.OpenFields.{OpenField, all_together}
use Rattle.symbolic_composites.specs.Composites.{Composite, from_option}
use Rattle.symbolic_plans.specs.declared.scheme.Row.{Row}
use Rattle.symbolic_plans.specs.declared.scheme.Row.TheVariants.{Chl, Chr, Gate, Parl, Parr, Pass, Enstep, Disstep, Disend, Distake, Rel}
use Rattle.symbolic_plans.specs.declared.composite.ActionKind.{ActionKind}
use Rattle.symbolic_plans.specs.declared.composite.ActionKind.TheVariants.{Inner, Exit, At}
use Rattle.symbolic_plans.specs.declared.composite.OpenComposite.{OpenComposite}
use Rattle.symbolic_plans.specs.Plans.{Plan, below, hidden, handed_on, together, field_of, plan_of, trees_of}

-- the kind of an action, its open fields, and the plan of its trees
pub record OpenPlan : Type 0 where
  pub kind : Kind
  pub fields : List OpenField
  pub plan : Plan

abbrev pub kind_in : ActionKind → Kind
kind_in Inner = inside
kind_in Exit = ends
kind_in (At gate) = at_gate gate.0

-- what a composite of the program stands for
abbrev pub open_plan_of : OpenComposite → OpenPlan
open_plan_of c = record { kind = kind_in c.kind; fields = map field_of c.columns.items; plan = plan_of c.scheme }

-- the composite with the trees of the plan
abbrev pub composite_of : Theory → Windows → OpenPlan → Composite
composite_of theory w p = record { kind = p.kind; fields = p.fields; trees = λ slots. trees_of theory w p.plan slots }

-- In each of these: the plans of what the operator of the same name makes of composites.

abbrev pub under_row : Row → OpenPlan → OpenPlan
under_row row p = record { kind = p.kind; fields = p.fields; plan = below row p.plan }

abbrev pub under_relabelling : List Relabelling → OpenPlan → OpenPlan
under_relabelling pairs p = record { kind = renamed_kind pairs p.kind; fields = p.fields; plan = below Rel p.plan }

abbrev pub turned_by : (List OpenField → Plan → Plan) → OpenPlan → OpenPlan
turned_by close p = record { kind = inside; fields = []; plan = close p.fields p.plan }

abbrev pub plans_alone : Synchronised → Row → OpenPlan → List OpenPlan
plans_alone gates row p = if is_alone gates p.kind then under_row row p ∷ [] else []

abbrev pub paired_plan : OpenPlan → OpenPlan → List OpenField → OpenPlan
paired_plan p q fields = record { kind = p.kind; fields = fields; plan = together p.plan q.plan }

abbrev pub plans_joint : Theory → Synchronised → OpenPlan → OpenPlan → List OpenPlan
plans_joint theory gates p q =
    if same_kind p.kind q.kind && is_joint gates p.kind
    then from_option (all_together theory p.fields q.fields) (λ fields. paired_plan p q fields ∷ [])
    else []

abbrev pub plan_by_hiding : List ℕ → OpenPlan → OpenPlan
plan_by_hiding gates p = if is_hidden gates p.kind then turned_by hidden p else under_row Pass p

abbrev pub plan_by_enabling : OpenPlan → OpenPlan
plan_by_enabling p = if is_end p.kind then turned_by handed_on p else under_row Enstep p

abbrev pub plan_by_disabling : OpenPlan → OpenPlan
plan_by_disabling p = if is_end p.kind then under_row Disend p else under_row Disstep p

abbrev pub plans_of_choice : List OpenPlan → List OpenPlan → List OpenPlan
plans_of_choice ps qs = map (under_row Chl) ps ++ map (under_row Chr) qs

abbrev pub plans_of_parallel : Theory → Synchronised → List OpenPlan → List OpenPlan → List OpenPlan
plans_of_parallel theory gates ps qs =
    flat_map (plans_alone gates Parl) ps ++
    (flat_map (plans_alone gates Parr) qs ++ flat_map (λ p. flat_map (plans_joint theory gates p) qs) ps)

abbrev pub plans_of_disable : List OpenPlan → List OpenPlan → List OpenPlan
plans_of_disable ps qs = map plan_by_disabling ps ++ map (under_row Distake) qs

abbrev pub plans_of_gates : ℕ → ℕ → List ℕ → List OpenPlan → List OpenPlan
plans_of_gates g n [] ps = []
plans_of_gates g n (h ∷ gates) ps =
    map (under_row (Gate n)) (map (under_relabelling (record { from = g; to = h } ∷ [])) ps) ++ plans_of_gates g (suc n) gates ps
