-- Where no gap is listed, the plans of a tree are those of which every participant is an expanded node.
use Rattle.std.proofs.Common.{ℕ, ◌≡◌, ◌++◌, ◌∙◌, List, [], ◌∷◌, map, flat_map, refl, sym, ap, Bool, true, false, if◌then◌else◌}
use Rattle.std.proofs.Common.{Option, Some, None, ◌||◌}
use Rattle.std.proofs.lemmas.List.{map-append}
use Rattle.std.proofs.lemmas.List.Concat.{flat_map-append}
use Rattle.spec_core.specs.Theories.{Theory}
use Rattle.spec_core.specs.Code.{Synchronised}
use Rattle.symbolic_composites.specs.Kinds.{is_joint}
use Rattle.symbolic_plans.specs.declared.scheme.Row.{Row}
use Rattle.symbolic_plans.specs.declared.scheme.Row.TheVariants.{Chl, Chr, Parl, Parr, Distake}
use Rattle.symbolic_plans.specs.OpenPlans.{OpenPlan, under_row, plans_alone, plans_joint, plan_by_disabling}
use Rattle.candidate_laws.specs.Sought.{Sought, Step, every_kind, sought_below, under_one, by_itself, with_another, as_another}
use Rattle.node_trees.specs.Rests.{Work}
use Rattle.node_trees.specs.Shapes.{Shape, leaf, ended, over, between, Unary, Binary, choosing, beside, disabling}
use Rattle.candidate_composites.specs.Known.{PlacedPlan, made, awaited, stepped, turned_there, placed_over_one, placed_alone}
use Rattle.candidate_composites.specs.Known.{placed_at, placed_partners, placed_over_two, placed_plans, plans_in, expanded_plans}
use Rattle.candidate_composites.specs.Joining.{Joins, free, right_of}
use Rattle.candidate_composites.specs.Kept.{kept_at, kept_over_two, kept_plans, node_waits, offering, some_waits}
use Rattle.candidate_composites.specs.declared.listed.Listed.TheVariants.{Pruned, Expanded}
use Rattle.candidate_composites.proofs.Kept.{pruned_is_kept}

-- A tree in which what waits has nothing to do.

abbrev settled_at : Option Work → Option Work
settled_at None = Some (record { plans = []; ways = [] })
settled_at (Some work) = Some work

abbrev settled : Shape → Shape
settled (leaf n) = leaf (record { generation = n.generation; source = n.source; work = settled_at n.work })
settled ended = ended
settled (over o x) = over o (settled x)
settled (between o x y) = between o (settled x) (settled y)

node_settled : (work : Option Work) → node_waits (settled_at work) ≡ false
node_settled None = refl
node_settled (Some work) = refl

none_waits : (t : Shape) → some_waits (settled t) ≡ false
none_waits (leaf n) = node_settled n.work
none_waits ended = refl
none_waits (over o x) = none_waits x
none_waits (between o x y) = ap (λ b. b || some_waits (settled y)) (none_waits x) ∙ none_waits y

-- without the gaps
abbrev solid : List PlacedPlan → List PlacedPlan
solid ps = map made (flat_map plans_in ps)

solid_join : (ps qs rs ss : List PlacedPlan) → solid ps ≡ rs → solid qs ≡ ss → solid (ps ++ qs) ≡ rs ++ ss
solid_join ps qs rs ss e f =
    ap (map made) (flat_map-append plans_in ps qs)
    ∙ map-append made (flat_map plans_in ps) (flat_map plans_in qs)
    ∙ ap (λ z. z ++ solid qs) e
    ∙ ap (λ z. rs ++ z) f

plans_again : (ps : List OpenPlan) → flat_map plans_in (map made ps) ≡ ps
plans_again [] = refl
plans_again (p ∷ ps) = ap (λ z. p ∷ z) (plans_again ps)

solid_plans : (ps : List OpenPlan) → solid (map made ps) ≡ map made ps
solid_plans ps = ap (map made) (plans_again ps)

solid_over : (o : Unary) (ps : List PlacedPlan) → solid (map (placed_over_one o) ps) ≡ map (placed_over_one o) (solid ps)
solid_over o [] = refl
solid_over o (made p ∷ ps) = ap (λ z. placed_over_one o (made p) ∷ z) (solid_over o ps)
solid_over o (awaited g steps ∷ ps) = solid_over o ps

solid_turned : (f : OpenPlan → OpenPlan) (ps : List PlacedPlan) → solid (map (turned_there f) ps) ≡ map (turned_there f) (solid ps)
solid_turned f [] = refl
solid_turned f (made p ∷ ps) = ap (λ z. made (f p) ∷ z) (solid_turned f ps)
solid_turned f (awaited g steps ∷ ps) = solid_turned f ps

solid_stepped : (step : Step) (f g : OpenPlan → List PlacedPlan) → ((p : OpenPlan) → solid (f p) ≡ g p) → (ps : List PlacedPlan) →
    solid (flat_map (stepped step f) ps) ≡ flat_map (stepped step g) (solid ps)
solid_stepped step f g h [] = refl
solid_stepped step f g h (made p ∷ ps) =
    solid_join (f p) (flat_map (stepped step f) ps) (g p) (flat_map (stepped step g) (solid ps)) (h p) (solid_stepped step f g h ps)
solid_stepped step f g h (awaited n steps ∷ ps) = solid_stepped step f g h ps

solid_alone : (gates : Synchronised) (row : Row) (ps : List PlacedPlan) →
    solid (placed_alone gates row ps) ≡ placed_alone gates row (solid ps)
solid_alone gates row ps =
    let those = λ (p : OpenPlan). map made (plans_alone gates row p) in
    solid_stepped (by_itself gates) those those (λ p. solid_plans (plans_alone gates row p)) ps

module _ (theory : Theory) where
  solid_partners : (gates : Synchronised) (qs : List PlacedPlan) (p : OpenPlan) →
      solid (placed_partners theory gates qs p) ≡ placed_partners theory gates (solid qs) p
  solid_partners gates qs p = by_test (is_joint gates p.kind)
    where
      those : OpenPlan → List PlacedPlan
      those q = map made (plans_joint theory gates p q)

      by_test : (b : Bool) → solid (if b then flat_map (stepped (as_another p.kind) those) qs else []) ≡
          (if b then flat_map (stepped (as_another p.kind) those) (solid qs) else [])
      by_test true = solid_stepped (as_another p.kind) those those (λ q. solid_plans (plans_joint theory gates p q)) qs
      by_test false = refl

  solid_two : (o : Binary) (ps qs : List PlacedPlan) →
      solid (placed_over_two theory o ps qs) ≡ placed_over_two theory o (solid ps) (solid qs)
  solid_two choosing ps qs =
      solid_join (map (turned_there (under_row Chl)) ps) (map (turned_there (under_row Chr)) qs)
      (map (turned_there (under_row Chl)) (solid ps)) (map (turned_there (under_row Chr)) (solid qs)) (solid_turned (under_row Chl) ps)
      (solid_turned (under_row Chr) qs)
  solid_two (beside gates) ps qs =
      let both = flat_map (stepped (with_another gates) (placed_partners theory gates qs)) ps in
      let boths = flat_map (stepped (with_another gates) (placed_partners theory gates (solid qs))) (solid ps) in
      let rights = placed_alone gates Parr (solid qs) in
      solid_join (placed_alone gates Parl ps) (placed_alone gates Parr qs ++ both) (placed_alone gates Parl (solid ps)) (rights ++ boths)
      (solid_alone gates Parl ps)
      (solid_join (placed_alone gates Parr qs) both rights boths (solid_alone gates Parr qs)
      (solid_stepped (with_another gates) (placed_partners theory gates qs) (placed_partners theory gates (solid qs))
      (solid_partners gates qs) ps))
  solid_two disabling ps qs =
      solid_join (map (turned_there plan_by_disabling) ps) (map (turned_there (under_row Distake)) qs)
      (map (turned_there plan_by_disabling) (solid ps)) (map (turned_there (under_row Distake)) (solid qs))
      (solid_turned plan_by_disabling ps) (solid_turned (under_row Distake) qs)

  solid_at : (g : ℕ) (work : Option Work) → placed_at g (settled_at work) ≡ solid (placed_at g work)
  solid_at g None = refl
  solid_at g (Some work) = sym (solid_plans work.plans)

  settled_is_solid : (t : Shape) → placed_plans theory (settled t) ≡ solid (placed_plans theory t)
  settled_is_solid (leaf n) = solid_at n.generation n.work
  settled_is_solid ended = refl
  settled_is_solid (over o x) = ap (map (placed_over_one o)) (settled_is_solid x) ∙ sym (solid_over o (placed_plans theory x))
  settled_is_solid (between o x y) =
      ap (λ z. placed_over_two theory o z (placed_plans theory (settled y))) (settled_is_solid x)
      ∙ ap (placed_over_two theory o (solid (placed_plans theory x))) (settled_is_solid y)
      ∙ sym (solid_two o (placed_plans theory x) (placed_plans theory y))

  kept_settled_at : (v : Sought) (c : Joins) (g : ℕ) (work : Option Work) →
      kept_at Expanded v c g work ≡ kept_at Pruned v c g (settled_at work)
  kept_settled_at v c g None = refl
  kept_settled_at v c g (Some work) = refl

  -- where no gap is listed, it is as if what waits had nothing to do
  kept_settled : (t : Shape) (v : Sought) (c : Joins) → kept_plans theory Expanded t v c ≡ kept_plans theory Pruned (settled t) v c
  kept_settled (leaf n) v c = kept_settled_at v c n.generation n.work
  kept_settled ended v c = refl
  kept_settled (over o x) v c = ap (map (placed_over_one o)) (kept_settled x (sought_below (under_one o) v) free)
  kept_settled (between o x y) v c =
      let qs = kept_plans theory Pruned (settled x) v c in
      ap (λ z. kept_over_two theory o v z (kept_plans theory Expanded y v (right_of true o (offering o v z) c))) (kept_settled x v c)
      ∙ ap (kept_over_two theory o v qs) (kept_settled y v (right_of true o (offering o v qs) c))

  pub expanded_are_kept : (t : Shape) → flat_map plans_in (kept_plans theory Expanded t every_kind free) ≡ expanded_plans theory t
  expanded_are_kept t =
      ap (flat_map plans_in)
      (kept_settled t every_kind free ∙ pruned_is_kept theory (settled t) (none_waits t) ∙ settled_is_solid t)
      ∙ plans_again (expanded_plans theory t)
