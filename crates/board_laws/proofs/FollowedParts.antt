-- Trees of the plans of an operator, and those of its parts.
use Rattle.std.proofs.Common.{ℕ, ◌≡◌, ◌⊎◌, inl, inr, ◌++◌, ◌&&◌, List, [], ◌∷◌, map, flat_map, refl, subst, Bool, true, false}
use Rattle.std.proofs.Common.{if◌then◌else◌}
use Rattle.spec_core.specs.Lists.{IsOneOf}
use Rattle.spec_core.specs.Theories.{Theory}
use Rattle.spec_core.specs.Code.{Relabelling, Synchronised}
use Rattle.spec_core.proofs.Members.{from_flat_map, one_parts, from_map}
use Rattle.rule_model.specs.declared.rules.Slot.{Slot}
use Rattle.rule_model.specs.Derivations.{Derivation, chl, chr, parl, parr, both, hiding, pass, enstep, enend, disstep, disend, distake, rel}
use Rattle.symbolic_rules.specs.Windows.{Windows}
use Rattle.decision_trees.specs.Gaps.{element, gap, in_its_place}
use Rattle.symbolic_composites.specs.Kinds.{is_alone, is_joint, is_hidden, is_end, same_kind}
use Rattle.symbolic_composites.specs.OpenFields.{OpenField, all_choices, choices_at_once, all_together}
use Rattle.symbolic_composites.specs.Composites.{from_option}
use Rattle.symbolic_plans.specs.declared.scheme.Row.{Row}
use Rattle.symbolic_plans.specs.declared.scheme.Row.TheVariants.{Chl, Chr, Parl, Parr, Pass, Enstep, Disstep, Disend, Distake, Rel}
use Rattle.symbolic_plans.specs.Plans.{below, hidden, handed_on, together, put_row, trees_of}
use Rattle.symbolic_plans.specs.OpenPlans.{OpenPlan, under_row, under_relabelling, plans_alone, plans_joint, paired_plan, plan_by_hiding}
use Rattle.symbolic_plans.specs.OpenPlans.{turned_by, plan_by_enabling, plan_by_disabling}
use Rattle.node_trees.specs.Shapes.{choosing, beside, disabling}
use Rattle.candidate_composites.specs.Known.{PlanOrGap, turned, each_turned, partners, over_two}
use Rattle.board_laws.proofs.FollowedLists.{from_some, from_test, only_one, from_elements, from_places}
use Rattle.board_laws.proofs.FollowedLists.{same_element, no_gap}

module _ (theory : Theory) (w : Windows) where
  -- a tree of one of the plans, with some slots for their fields
  pub record IsTreeIn (ps : List PlanOrGap) (d : Derivation) : Type 0 where
    pub plan : OpenPlan
    pub slots : List (List Slot)
    pub known : IsOneOf (element plan) ps
    pub tree : IsOneOf d (trees_of theory w plan.plan slots)

  -- a rule over a tree of one of the plans
  pub record IsOver (rule : Derivation → Derivation) (ps : List PlanOrGap) (d : Derivation) : Type 0 where
    pub part : Derivation
    pub same : d ≡ rule part
    pub among : IsTreeIn ps part

  -- two trees together, one of each list's plans
  pub record IsBoth (ps qs : List PlanOrGap) (d : Derivation) : Type 0 where
    pub left : Derivation
    pub right : Derivation
    pub same : d ≡ both left right
    pub among_left : IsTreeIn ps left
    pub among_right : IsTreeIn qs right

  in_either : (ps qs : List PlanOrGap) (d : Derivation) → IsTreeIn (ps ++ qs) d → IsTreeIn ps d ⊎ IsTreeIn qs d
  in_either ps qs d h = by_side (one_parts (element h.plan) ps qs h.known)
    where
      by_side : IsOneOf (element h.plan) ps ⊎ IsOneOf (element h.plan) qs → IsTreeIn ps d ⊎ IsTreeIn qs d
      by_side (inl i) = inl (record { plan = h.plan; slots = h.slots; known = i; tree = h.tree })
      by_side (inr i) = inr (record { plan = h.plan; slots = h.slots; known = i; tree = h.tree })

  -- below a rule
  below_is : (row : Row) (ps : List PlanOrGap) (q : OpenPlan) (slots : List (List Slot)) (d : Derivation) → IsOneOf (element q) ps →
      IsOneOf d (trees_of theory w (below row q.plan) slots) → IsOver (put_row row) ps d
  below_is row ps q slots d i h =
      let r = from_map (put_row row) (trees_of theory w q.plan slots) d h in
      record { part = r.0; same = r.2; among = record { plan = q; slots = slots; known = i; tree = r.1 } }

  -- below a rule that closes open fields
  closed_is : (rule : Derivation → Derivation) (ps : List PlanOrGap) (q : OpenPlan) (d : Derivation) → IsOneOf (element q) ps →
      IsOneOf d (map rule (flat_map (λ choices. trees_of theory w q.plan choices)
      (choices_at_once q.fields (all_choices theory w [] q.fields)))) →
      IsOver rule ps d
  closed_is rule ps q d i h =
      let those = choices_at_once q.fields (all_choices theory w [] q.fields) in
      let r = from_map rule (flat_map (λ choices. trees_of theory w q.plan choices) those) d h in
      let s = from_flat_map (λ choices. trees_of theory w q.plan choices) those r.0 r.1 in
      record { part = r.0; same = r.2; among = record { plan = q; slots = s.0; known = i; tree = s.2 } }

  -- the plan in whose place another stands
  record IsTurned (f : OpenPlan → OpenPlan) (ps : List PlanOrGap) (p : OpenPlan) : Type 0 where
    from : OpenPlan
    known : IsOneOf (element from) ps
    same : p ≡ f from

  turned_is : (f : OpenPlan → OpenPlan) (ps : List PlanOrGap) (p : OpenPlan) → IsOneOf (element p) (map (turned f) ps) → IsTurned f ps p
  turned_is f [] p h = absurd h
  turned_is f (element q ∷ ps) p (inl e) = record { from = q; known = inl refl; same = same_element p (f q) e }
  turned_is f (element q ∷ ps) p (inr h) =
      let r = turned_is f ps p h in record { from = r.from; known = inr r.known; same = r.same }
  turned_is f (gap g ∷ ps) p (inl e) = no_gap p g e
  turned_is f (gap g ∷ ps) p (inr h) =
      let r = turned_is f ps p h in record { from = r.from; known = inr r.known; same = r.same }

  -- a tree of a plan that stands in the place of another
  turned_tree : (f : OpenPlan → OpenPlan) (P : Type 0) (ps : List PlanOrGap) (d : Derivation) → IsTreeIn (map (turned f) ps) d →
      ((q : OpenPlan) (slots : List (List Slot)) → IsOneOf (element q) ps → IsOneOf d (trees_of theory w (f q).plan slots) → P) → P
  turned_tree f P ps d h k =
      let r = turned_is f ps h.plan h.known in
      k r.from h.slots r.known (subst (λ z. IsOneOf d (trees_of theory w z.plan h.slots)) r.same h.tree)

  row_over : (row : Row) (ps : List PlanOrGap) (d : Derivation) → IsTreeIn (map (turned (under_row row)) ps) d → IsOver (put_row row) ps d
  row_over row ps d h = turned_tree (under_row row) (IsOver (put_row row) ps d) ps d h (λ q slots i k. below_is row ps q slots d i k)

  pub over_hiding : (gates : List ℕ) (ps : List PlanOrGap) (d : Derivation) → IsTreeIn (map (turned (plan_by_hiding gates)) ps) d →
      IsOver hiding ps d ⊎ IsOver pass ps d
  over_hiding gates ps d h =
      turned_tree (plan_by_hiding gates) (IsOver hiding ps d ⊎ IsOver pass ps d) ps d h
      (λ q slots i k. by_test q slots i (is_hidden gates q.kind) k)
    where
      by_test : (q : OpenPlan) (slots : List (List Slot)) → IsOneOf (element q) ps → (b : Bool) →
          IsOneOf d (trees_of theory w (if b then turned_by hidden q else under_row Pass q).plan slots) →
          IsOver hiding ps d ⊎ IsOver pass ps d
      by_test q slots i true k = inl (closed_is hiding ps q d i k)
      by_test q slots i false k = inr (below_is Pass ps q slots d i k)

  pub over_enabling : (ps : List PlanOrGap) (d : Derivation) → IsTreeIn (map (turned plan_by_enabling) ps) d →
      IsOver enend ps d ⊎ IsOver enstep ps d
  over_enabling ps d h =
      turned_tree plan_by_enabling (IsOver enend ps d ⊎ IsOver enstep ps d) ps d h (λ q slots i k. by_test q slots i (is_end q.kind) k)
    where
      by_test : (q : OpenPlan) (slots : List (List Slot)) → IsOneOf (element q) ps → (b : Bool) →
          IsOneOf d (trees_of theory w (if b then turned_by handed_on q else under_row Enstep q).plan slots) →
          IsOver enend ps d ⊎ IsOver enstep ps d
      by_test q slots i true k = inl (closed_is enend ps q d i k)
      by_test q slots i false k = inr (below_is Enstep ps q slots d i k)

  pub over_relabelling : (pairs : List Relabelling) (ps : List PlanOrGap) (d : Derivation) →
      IsTreeIn (map (turned (under_relabelling pairs)) ps) d → IsOver rel ps d
  over_relabelling pairs ps d h =
      turned_tree (under_relabelling pairs) (IsOver rel ps d) ps d h (λ q slots i k. below_is Rel ps q slots d i k)

  over_disabled : (ps : List PlanOrGap) (d : Derivation) → IsTreeIn (map (turned plan_by_disabling) ps) d →
      IsOver disend ps d ⊎ IsOver disstep ps d
  over_disabled ps d h =
      turned_tree plan_by_disabling (IsOver disend ps d ⊎ IsOver disstep ps d) ps d h (λ q slots i k. by_test q slots i (is_end q.kind) k)
    where
      by_test : (q : OpenPlan) (slots : List (List Slot)) → IsOneOf (element q) ps → (b : Bool) →
          IsOneOf d (trees_of theory w (if b then under_row Disend q else under_row Disstep q).plan slots) →
          IsOver disend ps d ⊎ IsOver disstep ps d
      by_test q slots i true k = inl (below_is Disend ps q slots d i k)
      by_test q slots i false k = inr (below_is Disstep ps q slots d i k)

  pub over_choice : (ps qs : List PlanOrGap) (d : Derivation) → IsTreeIn (over_two theory choosing ps qs) d →
      IsOver chl ps d ⊎ IsOver chr qs d
  over_choice ps qs d h = by_side (in_either (map (turned (under_row Chl)) ps) (map (turned (under_row Chr)) qs) d h)
    where
      by_side : IsTreeIn (map (turned (under_row Chl)) ps) d ⊎ IsTreeIn (map (turned (under_row Chr)) qs) d →
          IsOver chl ps d ⊎ IsOver chr qs d
      by_side (inl i) = inl (row_over Chl ps d i)
      by_side (inr i) = inr (row_over Chr qs d i)

  pub over_disabling : (ps qs : List PlanOrGap) (d : Derivation) → IsTreeIn (over_two theory disabling ps qs) d →
      (IsOver disend ps d ⊎ IsOver disstep ps d) ⊎ IsOver distake qs d
  over_disabling ps qs d h = by_side (in_either (map (turned plan_by_disabling) ps) (map (turned (under_row Distake)) qs) d h)
    where
      by_side : IsTreeIn (map (turned plan_by_disabling) ps) d ⊎ IsTreeIn (map (turned (under_row Distake)) qs) d →
          (IsOver disend ps d ⊎ IsOver disstep ps d) ⊎ IsOver distake qs d
      by_side (inl i) = inl (over_disabled ps d i)
      by_side (inr i) = inr (row_over Distake qs d i)

  -- a side that acts alone
  alone_over : (gates : Synchronised) (row : Row) (ps : List PlanOrGap) (d : Derivation) →
      IsTreeIn (each_turned (plans_alone gates row) ps) d → IsOver (put_row row) ps d
  alone_over gates row ps d h =
      let r = from_places (λ p. map element (plans_alone gates row p)) h.plan ps h.known in
      let q = r.0 in
      let made = from_elements h.plan (plans_alone gates row q) r.2 in
      let same = only_one h.plan (under_row row q) (from_test (is_alone gates q.kind) (under_row row q ∷ []) h.plan made) in
      below_is row ps q h.slots d r.1 (subst (λ z. IsOneOf d (trees_of theory w z.plan h.slots)) same h.tree)

  -- a tree of two plans that are done together
  joint_tree : (p q r : OpenPlan) (fields : List OpenField) (slots : List (List Slot)) (d : Derivation) → r ≡ paired_plan p q fields →
      IsOneOf d (trees_of theory w r.plan slots) → IsOneOf d (trees_of theory w (together p.plan q.plan) slots)
  joint_tree p q r fields slots d e h = subst (λ z. IsOneOf d (trees_of theory w z.plan slots)) e h

  -- both sides together
  together_is : (gates : Synchronised) (ps qs : List PlanOrGap) (d : Derivation) →
      IsTreeIn (flat_map (in_its_place (partners theory gates qs)) ps) d → IsBoth ps qs d
  together_is gates ps qs d h =
      let r = from_places (partners theory gates qs) h.plan ps h.known in
      let p = r.0 in
      let s = from_places (λ q. map element (plans_joint theory gates p q)) h.plan qs
      (from_test (is_joint gates p.kind) (each_turned (plans_joint theory gates p) qs) (element h.plan) r.2) in
      let q = s.0 in
      let made = from_elements h.plan (plans_joint theory gates p q) s.2 in
      let joint = from_some (all_together theory p.fields q.fields) (λ fields. paired_plan p q fields ∷ []) h.plan
      (from_test (same_kind p.kind q.kind && is_joint gates p.kind)
      (from_option (all_together theory p.fields q.fields) (λ fields. paired_plan p q fields ∷ [])) h.plan made) in
      let same = only_one h.plan (paired_plan p q joint.0) joint.1 in
      let tree = joint_tree p q h.plan joint.0 h.slots d same h.tree in
      let left = from_flat_map (λ left. map (both left) (trees_of theory w q.plan h.slots)) (trees_of theory w p.plan h.slots) d tree in
      let right = from_map (both left.0) (trees_of theory w q.plan h.slots) d left.2 in
      record {
        left = left.0;
        right = right.0;
        same = right.2;
        among_left = record { plan = p; slots = h.slots; known = r.1; tree = left.1 };
        among_right = record { plan = q; slots = h.slots; known = s.1; tree = right.1 };
      }

  pub over_parallel : (gates : Synchronised) (ps qs : List PlanOrGap) (d : Derivation) → IsTreeIn (over_two theory (beside gates) ps qs) d →
      IsOver parl ps d ⊎ (IsOver parr qs d ⊎ IsBoth ps qs d)
  over_parallel gates ps qs d h = by_side (in_either lefts (rights ++ those) d h)
    where
      lefts : List PlanOrGap
      lefts = each_turned (plans_alone gates Parl) ps

      rights : List PlanOrGap
      rights = each_turned (plans_alone gates Parr) qs

      those : List PlanOrGap
      those = flat_map (in_its_place (partners theory gates qs)) ps

      by_other : IsTreeIn rights d ⊎ IsTreeIn those d → IsOver parl ps d ⊎ (IsOver parr qs d ⊎ IsBoth ps qs d)
      by_other (inl i) = inr (inl (alone_over gates Parr qs d i))
      by_other (inr i) = inr (inr (together_is gates ps qs d i))

      by_side : IsTreeIn lefts d ⊎ IsTreeIn (rights ++ those) d → IsOver parl ps d ⊎ (IsOver parr qs d ⊎ IsBoth ps qs d)
      by_side (inl i) = inl (alone_over gates Parl ps d i)
      by_side (inr i) = by_other (in_either rights those d i)
