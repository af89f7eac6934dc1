-- Gaps count nothing, so a tree has the possible agreements of its composites of expanded nodes.
use Rattle.std.proofs.Common.{ℕ, ◌≡◌, ◌<◌, ◌+◌, ◌∙◌, List, [], ◌∷◌, map, flat_map, refl, sym, ap, arith, get_or, length, sum_by, take}
use Rattle.std.proofs.lemmas.List.Sums.{sum_by-append, sum_by-cons}
use Rattle.std.proofs.lemmas.List.{map-append}
use Rattle.spec_core.proofs.Lists.{take_next}
use Rattle.spec_core.specs.Code.{Program}
use Rattle.rule_model.specs.Behaviours.{Behaviour}
use Rattle.symbolic_rules.specs.Windows.{Windows}
use Rattle.decision_trees.specs.Gaps.{element, gap}
use Rattle.symbolic_plans.specs.declared.composite.OpenComposite.{OpenComposite}
use Rattle.symbolic_plans.specs.OpenPlans.{OpenPlan, open_plan_of}
use Rattle.node_trees.specs.Shapes.{Shape, stands_for}
use Rattle.candidate_composites.specs.Known.{PlacedPlan, made, awaited, plan_or_gap, plans_in, placed_plans, expanded_plans}
use Rattle.candidate_composites.proofs.Placed.{bare_are_known}
use Rattle.candidate_count.specs.Counts.{offers_of_plan, offers_of_plans, offers_of_part, offers_of_tree}

-- one more of a list of composites
pub one_more : (f : OpenPlan → ℕ) (cs : List OpenComposite) (i : ℕ) (c : OpenComposite) → i < length cs → c ≡ get_or cs i c →
    sum_by f (map open_plan_of (take i cs)) + f (open_plan_of c) ≡ sum_by f (map open_plan_of (take (i + 1) cs))
one_more f cs i c h e =
    let next = ap (λ l. sum_by f (map open_plan_of l)) (take_next cs i c h e) in
    let both = ap (sum_by f) (map-append open_plan_of (take i cs) (c ∷ [])) in
    let sums = sum_by-append f (map open_plan_of (take i cs)) (open_plan_of c ∷ []) in
    let one = sum_by-cons f (open_plan_of c) [] in
    omega (arith, next, both, sums, one)

module _ (program : Program) (w : Windows) where
  without_gaps : (b : Behaviour) (ps : List PlacedPlan) →
      offers_of_plans program w b (flat_map plans_in ps) ≡ sum_by (offers_of_part program w b) (map plan_or_gap ps)
  without_gaps b [] = refl
  without_gaps b (made p ∷ ps) =
      sum_by-cons (offers_of_plan program w b) p (flat_map plans_in ps)
      ∙ ap (λ n. offers_of_plan program w b p + n) (without_gaps b ps)
      ∙ sym (sum_by-cons (offers_of_part program w b) (element p) (map plan_or_gap ps))
  without_gaps b (awaited g steps ∷ ps) =
      let rest = without_gaps b ps in
      let all = sum_by-cons (offers_of_part program w b) (gap g) (map plan_or_gap ps) in
      omega (arith, rest, all)

  pub expanded_are_counted : (t : Shape) →
      offers_of_plans program w (stands_for program t) (expanded_plans program.theory t) ≡ offers_of_tree program w t
  expanded_are_counted t =
      let b = stands_for program t in
      without_gaps b (placed_plans program.theory t) ∙ ap (sum_by (offers_of_part program w b)) (bare_are_known program.theory t)
