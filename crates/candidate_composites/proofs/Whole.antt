-- Where no node waits, there is no gap among the plans of a tree.
use Rattle.std.proofs.Common.{ℕ, ◌≡◌, ◌++◌, List, [], ◌∷◌, map, filter, flat_map, refl, ap, Bool, true, false, if◌then◌else◌, Option, Some, None}
use Rattle.std.proofs.lemmas.Bool.{or_parts}
use Rattle.spec_core.specs.Theories.{Theory}
use Rattle.spec_core.specs.Code.{Synchronised}
use Rattle.symbolic_composites.specs.Kinds.{is_joint}
use Rattle.symbolic_plans.specs.declared.scheme.Row.{Row}
use Rattle.symbolic_plans.specs.declared.scheme.Row.TheVariants.{Chl, Chr, Parl, Parr, Distake}
use Rattle.symbolic_plans.specs.OpenPlans.{OpenPlan, under_row, plans_alone, plans_joint, plan_by_disabling}
use Rattle.candidate_laws.specs.Sought.{Sought, Step, seeks_some, sought_below, by_itself, with_another, as_another}
use Rattle.node_trees.specs.Rests.{Work}
use Rattle.node_trees.specs.Shapes.{Shape, leaf, ended, over, between, Unary, Binary, choosing, beside, disabling}
use Rattle.candidate_composites.specs.Known.{PlacedPlan, made, awaited, stepped, turned_there, placed_over_one, placed_alone}
use Rattle.candidate_composites.specs.Known.{placed_at, placed_partners, placed_over_two, placed_plans, plans_in, expanded_plans}
use Rattle.candidate_composites.specs.Kept.{keeps, kept_over_two, kept_partners, meeting, node_waits, some_waits, staying, where_sought}

-- none of these is a gap
abbrev pub AllMade : List PlacedPlan → Type 0
AllMade [] = Unit {0}
AllMade (made p ∷ ps) = AllMade ps
AllMade (awaited g steps ∷ ps) = ⊥

join : (ps qs : List PlacedPlan) → AllMade ps → AllMade qs → AllMade (ps ++ qs)
join [] qs a b = b
join (made p ∷ ps) qs a b = join ps qs a b
join (awaited g steps ∷ ps) qs a b = absurd a

pub all_plans : (ps : List OpenPlan) → AllMade (map made ps)
all_plans [] = tt
all_plans (p ∷ ps) = all_plans ps

at_node : (g : ℕ) (work : Option Work) → node_waits work ≡ false → AllMade (placed_at g work)
at_node g None e = let no : true ≡ false = e in absurd cc
at_node g (Some work) e = all_plans work.plans

pub all_over : (o : Unary) (ps : List PlacedPlan) → AllMade ps → AllMade (map (placed_over_one o) ps)
all_over o [] a = tt
all_over o (made p ∷ ps) a = all_over o ps a
all_over o (awaited g steps ∷ ps) a = absurd a

all_turned : (f : OpenPlan → OpenPlan) (ps : List PlacedPlan) → AllMade ps → AllMade (map (turned_there f) ps)
all_turned f [] a = tt
all_turned f (made p ∷ ps) a = all_turned f ps a
all_turned f (awaited g steps ∷ ps) a = absurd a

all_stepped : (step : Step) (f : OpenPlan → List PlacedPlan) → ((p : OpenPlan) → AllMade (f p)) → (ps : List PlacedPlan) → AllMade ps →
    AllMade (flat_map (stepped step f) ps)
all_stepped step f h [] a = tt
all_stepped step f h (made p ∷ ps) a = join (f p) (flat_map (stepped step f) ps) (h p) (all_stepped step f h ps a)
all_stepped step f h (awaited g steps ∷ ps) a = absurd a

all_alone : (gates : Synchronised) (row : Row) (ps : List PlacedPlan) → AllMade ps → AllMade (placed_alone gates row ps)
all_alone gates row ps a =
    all_stepped (by_itself gates) (λ p. map made (plans_alone gates row p)) (λ p. all_plans (plans_alone gates row p)) ps a

module _ (theory : Theory) where
  all_partners : (gates : Synchronised) (qs : List PlacedPlan) → AllMade qs → (p : OpenPlan) → AllMade (placed_partners theory gates qs p)
  all_partners gates qs a p = by_test (is_joint gates p.kind)
    where
      those : List PlacedPlan
      those = flat_map (stepped (as_another p.kind) (λ q. map made (plans_joint theory gates p q))) qs

      by_test : (b : Bool) → AllMade (if b then those else [])
      by_test true =
          all_stepped (as_another p.kind) (λ q. map made (plans_joint theory gates p q)) (λ q. all_plans (plans_joint theory gates p q)) qs a
      by_test false = tt

  all_between : (o : Binary) (ps qs : List PlacedPlan) → AllMade ps → AllMade qs → AllMade (placed_over_two theory o ps qs)
  all_between choosing ps qs a b =
      join (map (turned_there (under_row Chl)) ps) (map (turned_there (under_row Chr)) qs) (all_turned (under_row Chl) ps a)
      (all_turned (under_row Chr) qs b)
  all_between (beside gates) ps qs a b =
      let together = flat_map (stepped (with_another gates) (placed_partners theory gates qs)) ps in
      join (placed_alone gates Parl ps) (placed_alone gates Parr qs ++ together) (all_alone gates Parl ps a)
      (join (placed_alone gates Parr qs) together (all_alone gates Parr qs b)
      (all_stepped (with_another gates) (placed_partners theory gates qs) (all_partners gates qs b) ps a))
  all_between disabling ps qs a b =
      join (map (turned_there plan_by_disabling) ps) (map (turned_there (under_row Distake)) qs) (all_turned plan_by_disabling ps a)
      (all_turned (under_row Distake) qs b)

  -- the same of those that are kept

  all_keeping : (v : Sought) (ps : List PlacedPlan) → AllMade ps → AllMade (filter (keeps v) ps)
  all_keeping v [] a = tt
  all_keeping v (made p ∷ ps) a = all_keeping v ps a
  all_keeping v (awaited g steps ∷ ps) a = absurd a

  all_where : (step : Step) (v : Sought) (ps : List PlacedPlan) → AllMade ps → AllMade (where_sought step v ps)
  all_where step v ps a = by_test (seeks_some (sought_below step v))
    where
      by_test : (b : Bool) → AllMade (if b then filter (keeps (sought_below step v)) ps else [])
      by_test true = all_keeping (sought_below step v) ps a
      by_test false = tt

  pub all_kept_between : (o : Binary) (v : Sought) (ps qs : List PlacedPlan) → AllMade ps → AllMade qs →
      AllMade (kept_over_two theory o v ps qs)
  all_kept_between choosing v ps qs a b = all_between choosing ps qs a b
  all_kept_between (beside gates) v ps qs a b =
      let lefts = placed_alone gates Parl (staying gates v ps) in
      let rights = placed_alone gates Parr qs in
      let together = flat_map (stepped (with_another gates) (kept_partners theory gates v qs)) (meeting gates v ps) in
      join lefts (rights ++ together) (all_alone gates Parl (staying gates v ps) (all_where (by_itself gates) v ps a))
      (join rights together (all_alone gates Parr qs b)
      (all_stepped (with_another gates) (kept_partners theory gates v qs)
      (λ p. all_partners gates (filter (keeps (sought_below (as_another p.kind) v)) qs) (all_keeping (sought_below (as_another p.kind) v) qs b) p)
      (meeting gates v ps) (all_where (with_another gates) v ps a)))
  all_kept_between disabling v ps qs a b = all_between disabling ps qs a b

  pub all_made : (t : Shape) → some_waits t ≡ false → AllMade (placed_plans theory t)
  all_made (leaf n) e = at_node n.generation n.work e
  all_made ended e = tt
  all_made (over o x) e = all_over o (placed_plans theory x) (all_made x e)
  all_made (between o x y) e =
      let n = or_parts (some_waits x) (some_waits y) e in
      all_between o (placed_plans theory x) (placed_plans theory y) (all_made x n.0) (all_made y n.1)

  made_again : (ps : List PlacedPlan) → AllMade ps → map made (flat_map plans_in ps) ≡ ps
  made_again [] a = refl
  made_again (made p ∷ ps) a = ap (λ z. made p ∷ z) (made_again ps a)
  made_again (awaited g steps ∷ ps) a = absurd a

  -- so those of which every participant is an expanded node are all
  pub expanded_are_all : (t : Shape) → some_waits t ≡ false → map made (expanded_plans theory t) ≡ placed_plans theory t
  expanded_are_all t e = made_again (placed_plans theory t) (all_made t e)
