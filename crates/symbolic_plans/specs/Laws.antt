-- The operators over plans make the composites that those over composites make.
use Rattle.std.specs.Prelude.{ℕ, ◌≡◌, List, map}
use Rattle.spec_core.specs.Theories.{Theory}
use Rattle.spec_core.specs.Code.{Relabelling, Synchronised}
use Rattle.symbolic_rules.specs.Windows.{Windows}
use Rattle.symbolic_composites.specs.Composites.{Composite, under, alone, joint, by_hiding, by_enabling, by_disabling, of_choice, of_parallel}
use Rattle.symbolic_composites.specs.Composites.{of_disable, of_relabel, of_gates}
use Rattle.symbolic_plans.specs.declared.scheme.Row.{Row}
use Rattle.symbolic_plans.specs.Plans.{put_row}
use Rattle.symbolic_plans.specs.OpenPlans.{OpenPlan, composite_of, under_row, under_relabelling, plans_alone, plans_joint, plan_by_hiding}
use Rattle.symbolic_plans.specs.OpenPlans.{plan_by_enabling, plan_by_disabling}
use Rattle.symbolic_plans.specs.OpenPlans.{plans_of_choice, plans_of_parallel, plans_of_disable, plans_of_gates}

-- the composites of plans
abbrev pub composites_of : Theory → Windows → List OpenPlan → List Composite
composites_of theory w ps = map (composite_of theory w) ps

pub record PlansAreOfComposites (theory : Theory) (w : Windows) : Type 0 where
  -- of one composite, or of two
  pub one_alone : (gates : Synchronised) (row : Row) (p : OpenPlan) →
      composites_of theory w (plans_alone gates row p) ≡ alone gates (put_row row) (composite_of theory w p)
  pub one_joint : (gates : Synchronised) (p q : OpenPlan) →
      composites_of theory w (plans_joint theory gates p q) ≡ joint theory gates (composite_of theory w p) (composite_of theory w q)
  pub one_hiding : (gates : List ℕ) (p : OpenPlan) →
      composite_of theory w (plan_by_hiding gates p) ≡ by_hiding theory w gates (composite_of theory w p)
  pub one_enabling : (p : OpenPlan) → composite_of theory w (plan_by_enabling p) ≡ by_enabling theory w (composite_of theory w p)
  pub one_disabling : (p : OpenPlan) → composite_of theory w (plan_by_disabling p) ≡ by_disabling (composite_of theory w p)
  -- and of lists of them
  pub rows : (row : Row) (ps : List OpenPlan) →
      composites_of theory w (map (under_row row) ps) ≡ map (under (put_row row)) (composites_of theory w ps)
  pub choice : (ps qs : List OpenPlan) →
      composites_of theory w (plans_of_choice ps qs) ≡ of_choice (composites_of theory w ps) (composites_of theory w qs)
  pub parallel : (gates : Synchronised) (ps qs : List OpenPlan) →
      composites_of theory w (plans_of_parallel theory gates ps qs) ≡
      of_parallel theory gates (composites_of theory w ps) (composites_of theory w qs)
  pub hide : (gates : List ℕ) (ps : List OpenPlan) →
      composites_of theory w (map (plan_by_hiding gates) ps) ≡ map (by_hiding theory w gates) (composites_of theory w ps)
  pub enable : (ps : List OpenPlan) →
      composites_of theory w (map plan_by_enabling ps) ≡ map (by_enabling theory w) (composites_of theory w ps)
  pub disable : (ps qs : List OpenPlan) →
      composites_of theory w (plans_of_disable ps qs) ≡ of_disable (composites_of theory w ps) (composites_of theory w qs)
  pub relabel : (pairs : List Relabelling) (ps : List OpenPlan) →
      composites_of theory w (map (under_relabelling pairs) ps) ≡ of_relabel pairs (composites_of theory w ps)
  pub gates : (g n : ℕ) (hs : List ℕ) (ps : List OpenPlan) →
      composites_of theory w (plans_of_gates g n hs ps) ≡ of_gates g n hs (composites_of theory w ps)

abbrev pub PlansMakeComposites : Type 0
PlansMakeComposites = (theory : Theory) (w : Windows) → PlansAreOfComposites theory w
