-- Without the steps from gaps up to the whole, the plans of a tree are those that are known.
use Rattle.std.proofs.Common.{◌≡◌, inl, inr, ◌++◌, ◌∙◌, List, [], ◌∷◌, map, flat_map, refl, ap, subst, Bool, true, false, if◌then◌else◌, Option, Some, None}
use Rattle.std.proofs.lemmas.List.{map-append}
use Rattle.spec_core.specs.Lists.{IsOneOf}
use Rattle.spec_core.specs.Theories.{Theory}
use Rattle.spec_core.specs.Code.{Synchronised}
use Rattle.decision_trees.specs.Gaps.{element, gap, in_its_place}
use Rattle.symbolic_composites.specs.Kinds.{is_joint}
use Rattle.symbolic_plans.specs.declared.scheme.Row.{Row}
use Rattle.symbolic_plans.specs.declared.scheme.Row.TheVariants.{Chl, Chr, Parl, Parr, Distake}
use Rattle.symbolic_plans.specs.OpenPlans.{OpenPlan, under_row, plans_alone, plans_joint, plan_by_disabling}
use Rattle.candidate_laws.specs.Sought.{Sought, is_sought, seeks_some, sought_at, Step, by_itself, with_another, as_another}
use Rattle.node_trees.specs.Rests.{Work}
use Rattle.node_trees.specs.Shapes.{Shape, leaf, ended, over, between, Unary, Binary, choosing, beside, disabling}
use Rattle.candidate_composites.specs.Known.{PlanOrGap, PlacedPlan, made, awaited, plan_or_gap, plans_sought, turned, over_one, each_turned}
use Rattle.candidate_composites.specs.Known.{plans_at, partners, over_two, known_plans, stepped, turned_there, placed_over_one, placed_alone}
use Rattle.candidate_composites.specs.Known.{placed_at, placed_partners, placed_over_two, placed_plans}
use Rattle.candidate_composites.specs.Laws.{SoughtPlansAreKnown}

abbrev bare : List PlacedPlan → List PlanOrGap
bare ps = map plan_or_gap ps

bare_plans : (ps : List OpenPlan) → bare (map made ps) ≡ map element ps
bare_plans [] = refl
bare_plans (p ∷ ps) = ap (λ z. element p ∷ z) (bare_plans ps)

bare_stepped : (step : Step) (f : OpenPlan → List PlacedPlan) (g : OpenPlan → List PlanOrGap) → ((p : OpenPlan) → bare (f p) ≡ g p) →
    (ps : List PlacedPlan) → bare (flat_map (stepped step f) ps) ≡ flat_map (in_its_place g) (bare ps)
bare_stepped step f g h [] = refl
bare_stepped step f g h (made p ∷ ps) =
    map-append plan_or_gap (f p) (flat_map (stepped step f) ps)
    ∙ ap (λ z. z ++ bare (flat_map (stepped step f) ps)) (h p) ∙ ap (λ z. g p ++ z) (bare_stepped step f g h ps)
bare_stepped step f g h (awaited n steps ∷ ps) = ap (λ z. gap n ∷ z) (bare_stepped step f g h ps)

bare_turned : (f : OpenPlan → OpenPlan) (ps : List PlacedPlan) → bare (map (turned_there f) ps) ≡ map (turned f) (bare ps)
bare_turned f [] = refl
bare_turned f (made p ∷ ps) = ap (λ z. element (f p) ∷ z) (bare_turned f ps)
bare_turned f (awaited n steps ∷ ps) = ap (λ z. gap n ∷ z) (bare_turned f ps)

bare_over : (o : Unary) (ps : List PlacedPlan) → bare (map (placed_over_one o) ps) ≡ map (turned (over_one o)) (bare ps)
bare_over o [] = refl
bare_over o (made p ∷ ps) = ap (λ z. element (over_one o p) ∷ z) (bare_over o ps)
bare_over o (awaited n steps ∷ ps) = ap (λ z. gap n ∷ z) (bare_over o ps)

bare_alone : (gates : Synchronised) (row : Row) (ps : List PlacedPlan) →
    bare (placed_alone gates row ps) ≡ each_turned (plans_alone gates row) (bare ps)
bare_alone gates row ps =
    bare_stepped (by_itself gates) (λ p. map made (plans_alone gates row p)) (λ p. map element (plans_alone gates row p))
    (λ p. bare_plans (plans_alone gates row p)) ps

join : (ps qs : List PlacedPlan) (ks ls : List PlanOrGap) → bare ps ≡ ks → bare qs ≡ ls → bare (ps ++ qs) ≡ ks ++ ls
join ps qs ks ls e f = map-append plan_or_gap ps qs ∙ ap (λ z. z ++ bare qs) e ∙ ap (λ z. ks ++ z) f

module _ (theory : Theory) where
  bare_partners : (gates : Synchronised) (qs : List PlacedPlan) (p : OpenPlan) →
      bare (placed_partners theory gates qs p) ≡ partners theory gates (bare qs) p
  bare_partners gates qs p = by_test (is_joint gates p.kind)
    where
      those : List PlacedPlan
      those = flat_map (stepped (as_another p.kind) (λ q. map made (plans_joint theory gates p q))) qs

      by_test : (b : Bool) → bare (if b then those else []) ≡ (if b then each_turned (plans_joint theory gates p) (bare qs) else [])
      by_test true =
          bare_stepped (as_another p.kind) (λ q. map made (plans_joint theory gates p q)) (λ q. map element (plans_joint theory gates p q))
          (λ q. bare_plans (plans_joint theory gates p q)) qs
      by_test false = refl

  bare_two : (o : Binary) (ps qs : List PlacedPlan) → bare (placed_over_two theory o ps qs) ≡ over_two theory o (bare ps) (bare qs)
  bare_two choosing ps qs =
      join (map (turned_there (under_row Chl)) ps) (map (turned_there (under_row Chr)) qs) (map (turned (under_row Chl)) (bare ps))
      (map (turned (under_row Chr)) (bare qs)) (bare_turned (under_row Chl) ps) (bare_turned (under_row Chr) qs)
  bare_two (beside gates) ps qs =
      let both = flat_map (stepped (with_another gates) (placed_partners theory gates qs)) ps in
      let right = placed_alone gates Parr qs in
      let those = flat_map (in_its_place (partners theory gates (bare qs))) (bare ps) in
      let rights = each_turned (plans_alone gates Parr) (bare qs) in
      join (placed_alone gates Parl ps) (right ++ both) (each_turned (plans_alone gates Parl) (bare ps)) (rights ++ those)
      (bare_alone gates Parl ps)
      (join right both rights those (bare_alone gates Parr qs)
      (bare_stepped (with_another gates) (placed_partners theory gates qs) (partners theory gates (bare qs)) (bare_partners gates qs) ps))
  bare_two disabling ps qs =
      join (map (turned_there plan_by_disabling) ps) (map (turned_there (under_row Distake)) qs) (map (turned plan_by_disabling) (bare ps))
      (map (turned (under_row Distake)) (bare qs)) (bare_turned plan_by_disabling ps) (bare_turned (under_row Distake) qs)

  at_leaf : (g : _) (work : Option Work) → bare (placed_at g work) ≡ plans_at g work
  at_leaf g None = refl
  at_leaf g (Some work) = bare_plans work.plans

  pub bare_are_known : (t : Shape) → bare (placed_plans theory t) ≡ known_plans theory t
  bare_are_known (leaf n) = at_leaf n.generation n.work
  bare_are_known ended = refl
  bare_are_known (over o x) = bare_over o (placed_plans theory x) ∙ ap (map (turned (over_one o))) (bare_are_known x)
  bare_are_known (between o x y) =
      bare_two o (placed_plans theory x) (placed_plans theory y)
      ∙ ap (λ z. over_two theory o z (bare (placed_plans theory y))) (bare_are_known x)
      ∙ ap (over_two theory o (known_plans theory x)) (bare_are_known y)

-- what is sought is known
sifted_is : (v : Sought) (ps : List PlacedPlan) (x : PlanOrGap) → IsOneOf x (flat_map (plans_sought v) ps) → IsOneOf x (bare ps)
sifted_is v [] x h = absurd h
sifted_is v (made p ∷ ps) x h = by_test (is_sought v p.kind) (λ i. sifted_is v ps x i) h
  where
    by_test : (b : Bool) → (IsOneOf x (flat_map (plans_sought v) ps) → IsOneOf x (bare ps)) →
        IsOneOf x ((if b then element p ∷ [] else []) ++ flat_map (plans_sought v) ps) → IsOneOf x (element p ∷ bare ps)
    by_test true rest (inl e) = inl e
    by_test true rest (inr i) = inr (rest i)
    by_test false rest i = inr (rest i)
sifted_is v (awaited n steps ∷ ps) x h = by_test (seeks_some (sought_at steps v)) (λ i. sifted_is v ps x i) h
  where
    by_test : (b : Bool) → (IsOneOf x (flat_map (plans_sought v) ps) → IsOneOf x (bare ps)) →
        IsOneOf x ((if b then gap n ∷ [] else []) ++ flat_map (plans_sought v) ps) → IsOneOf x (gap n ∷ bare ps)
    by_test true rest (inl e) = inl e
    by_test true rest (inr i) = inr (rest i)
    by_test false rest i = inr (rest i)

pub sought_plans_are_known : SoughtPlansAreKnown
sought_plans_are_known theory t v x i =
    subst (λ (l : List PlanOrGap). IsOneOf x l) (bare_are_known theory t) (sifted_is v (placed_plans theory t) x i)
