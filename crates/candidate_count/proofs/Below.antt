-- A tree of nodes has no more possible agreements than the behaviour that it stands for.
use Rattle.std.proofs.Common.{◌≡◌, ◌≤◌, ◌∷◌, [], List, map, refl, ap, length, Option, Some, None, sum_by, arith}
use Rattle.spec_core.specs.Code.{Program}
use Rattle.symbolic_rules.specs.Windows.{Windows}
use Rattle.symbolic_rules.specs.MarkedTerms.{unmarked}
use Rattle.decision_trees.specs.Gaps.{element, gap}
use Rattle.symbolic_composites.specs.Evaluations.{Evaluation}
use Rattle.rule_model.specs.Behaviours.{Behaviour}
use Rattle.symbolic_plans.specs.OpenPlans.{OpenPlan, under_relabelling, plan_by_hiding, plan_by_enabling, plans_of_choice}
use Rattle.symbolic_plans.specs.OpenPlans.{plans_of_parallel, plans_of_disable}
use Rattle.node_trees.specs.Origins.{Source, meaning}
use Rattle.node_trees.specs.Rests.{Work}
use Rattle.node_trees.specs.Shapes as nodes
use Rattle.node_trees.specs.Shapes.{Above, Held, Shape, leaf, ended, over, between, Unary, hidden, enabled, Binary, choosing, beside}
use Rattle.node_trees.specs.Shapes.{disabling, Stands, stands_for, under as above_one, first_of, second_of}
use Rattle.candidate_composites.specs.Known.{PlanOrGap, over_one, known_plans}
use Rattle.symbolic_plans.specs.OwnPlans.{own_plans}
use Rattle.candidate_count.specs.Counts.{offers, offers_of_plan, offers_of_plans, offers_of_part, offers_of_tree}
use Rattle.candidate_count.specs.Laws.{AreOwnPlans, TreesHaveNoMoreOffers}
use Rattle.candidate_count.proofs.Sums.{plans_or, all_over_two, all_plans, known_part, known_no_more}

module _ (program : Program) (e : Evaluation) (w : Windows) where
  -- the plans of a behaviour, and of an origin
  abbrev pub own_of : Behaviour → List OpenPlan
  own_of b = own_plans program.theory e w (length program.code) unmarked b

  abbrev pub own : Source → List OpenPlan
  own o = own_of (meaning program o)

  abbrev pub all : Shape → List OpenPlan
  all t = all_plans program.theory own t

  -- where each node has its own plans, they are those of the whole
  own_one : (o : Unary) (x : Shape) (ps : List OpenPlan) → ps ≡ own_of (stands_for program x) →
      map (over_one o) ps ≡ own_of (stands_for program (over o x))
  own_one (hidden gates) x ps h = ap (map (plan_by_hiding gates)) h
  own_one (nodes.relabelled pairs) x ps h = ap (map (under_relabelling pairs)) h
  own_one (enabled xs right values) x ps h = ap (map plan_by_enabling) h

  own_two : (o : Binary) (x y : Shape) (ps qs : List OpenPlan) → ps ≡ own_of (stands_for program x) → qs ≡ own_of (stands_for program y) →
      all_over_two program.theory o ps qs ≡ own_of (stands_for program (between o x y))
  own_two choosing x y ps qs h k = λ i. plans_of_choice (h i) (k i)
  own_two (beside gates) x y ps qs h k = λ i. plans_of_parallel program.theory gates (h i) (k i)
  own_two disabling x y ps qs h k = λ i. plans_of_disable (h i) (k i)

  own_leaf : (n : Held) (o : Option Work) → n.work ≡ o → AreOwnPlans program e w (leaf n) →
      plans_or (own n.source) o ≡ own_of (meaning program n.source)
  own_leaf n None i h = refl
  own_leaf n (Some work) i h = h [] n refl work i

  pub whole_own : (t : Shape) → AreOwnPlans program e w t → all t ≡ own_of (stands_for program t)
  whole_own (leaf n) h = own_leaf n n.work refl h
  whole_own ended h = refl
  whole_own (over o x) h = own_one o x (all x) (whole_own x (λ up n i. h (above_one o ∷ up) n (refl, i)))
  whole_own (between o x y) h =
      own_two o x y (all x) (all y) (whole_own x (λ up n i. h (first_of o ∷ up) n (refl, i)))
      (whole_own y (λ up n i. h (second_of o ∷ up) n (refl, i)))

  part_counted : (b : Behaviour) (x : PlanOrGap) → offers_of_part program w b x ≡ known_part (offers_of_plan program w b) x
  part_counted b (element p) = refl
  part_counted b (gap n) = refl

  no_more : (t : Shape) → offers_of_tree program w t ≤ offers_of_plans program w (stands_for program t) (all t)
  no_more t =
      let b = stands_for program t in
      let same : offers_of_tree program w t ≡ sum_by (known_part (offers_of_plan program w b)) (known_plans program.theory t) =
      λ i. sum_by (λ x. part_counted b x i) (known_plans program.theory t) in
      let below = known_no_more program.theory own t (offers_of_plan program w b) in
      omega (arith, same, below)

pub trees_have_no_more_offers : TreesHaveNoMoreOffers
trees_have_no_more_offers program e w t h =
    let b = stands_for program t in
    let below = no_more program e w t in
    let same : offers_of_plans program w b (all program e w t) ≡ offers program e w b =
    ap (offers_of_plans program w b) (whole_own program e w t h) in
    omega (arith, below, same)
