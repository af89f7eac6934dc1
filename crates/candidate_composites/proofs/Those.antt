-- The plans of a tree make its composites, with the same gaps.
use Rattle.std.proofs.Common.{ℕ, ◌≡◌, ◌++◌, ◌&&◌, ◌∙◌, List, [], ◌∷◌, map, flat_map, refl, sym, ap, Bool, true, false, cond}
use Rattle.std.proofs.Common.{if◌then◌else◌, Option, Some, None, option_map}
use Rattle.std.proofs.lemmas.List.Concat.{flat_map-append}
use Rattle.std.proofs.lemmas.List.{map-append}
use Rattle.spec_core.specs.Theories.{Theory}
use Rattle.spec_core.specs.Code.{Synchronised}
use Rattle.spec_core.proofs.Lists.{filter_none}
use Rattle.rule_model.specs.Actions.{Kind, inside}
use Rattle.rule_model.specs.Derivations.{chl, chr, parl, parr, distake}
use Rattle.symbolic_rules.specs.Windows.{Windows}
use Rattle.symbolic_rules.specs.MayDerive.{renamed_kind}
use Rattle.decision_trees.specs.Lazy.{Lazy, cons, nil, waits, of_list, joined, each}
use Rattle.decision_trees.specs.Known.{unless_known, known_or}
use Rattle.decision_trees.specs.Gaps.{OrGap, element, gap, with_gaps, in_its_place}
use Rattle.decision_trees.specs.Laws.{PartsAreSo}
use Rattle.decision_trees.proofs.Gaps.{parts_are_so}
use Rattle.symbolic_composites.specs.Kinds.{is_alone, is_joint, is_hidden, is_end, same_kind}
use Rattle.symbolic_composites.specs.OpenFields.{OpenField, all_together}
use Rattle.symbolic_composites.specs.Composites.{Composite, from_option, under, relabelled, alone, joint, by_hiding, by_enabling, by_disabling}
use Rattle.symbolic_composites.proofs.Tests.{if_true}
use Rattle.symbolic_plans.specs.Plans as plans
use Rattle.symbolic_plans.specs.Plans.{put_row}
use Rattle.symbolic_plans.specs.declared.scheme.Row.{Row}
use Rattle.symbolic_plans.specs.declared.scheme.Row.TheVariants.{Chl, Chr, Parl, Parr, Distake, Pass, Enstep, Disend, Disstep}
use Rattle.symbolic_plans.specs.OpenPlans.{OpenPlan, composite_of, under_row, turned_by, plans_alone, paired_plan, plans_joint}
use Rattle.symbolic_plans.specs.OpenPlans.{plan_by_disabling}
use Rattle.symbolic_plans.specs.Laws.{PlansAreOfComposites}
use Rattle.symbolic_plans.proofs.Made.{plans_make_composites}
use Rattle.candidate_laws.specs.Sought.{Sought, every_kind, these_kinds, is_sought, seeks_some, Step, under_one, by_itself, with_another, as_another, sought_below, sought_at}
use Rattle.candidate_laws.specs.Waiting.{sought_of, each_as, where_asked, together, waiting_composites}
use Rattle.candidate_laws.proofs.Sought.{kinds_same, below_is_above, none_is_sought, none_beside}
use Rattle.node_trees.specs.Rests.{Work}
use Rattle.node_trees.specs.Shapes as nodes
use Rattle.node_trees.specs.Shapes.{Shape, leaf, ended, over, between, Unary, hidden, enabled, Binary, choosing, beside, disabling}
use Rattle.node_trees.specs.Shapes.{under as above_one, first_of, second_of}
use Rattle.candidate_composites.specs.Known.{PlanOrGap, PlacedPlan, made, awaited, plans_sought, over_one, stepped, turned_there, placed_over_one}
use Rattle.candidate_composites.specs.Known.{placed_alone, placed_at, placed_partners, placed_plans}
use Rattle.candidate_composites.specs.Laws.{composite_or_gap, AreExpanded, KnownPlansAreThose}

-- the last step is looked at first
at_last : (steps : List Step) (step : Step) (v : Sought) → sought_at (steps ++ step ∷ []) v ≡ sought_at steps (sought_below step v)
at_last [] step v = refl
at_last (s ∷ steps) step v = ap (sought_below s) (at_last steps step v)

-- of plans with gaps those of whose actions some kind is sought
abbrev pub sift : Sought → List PlacedPlan → List PlanOrGap
sift v ps = flat_map (plans_sought v) ps

-- where nothing is sought there is nothing
pub nothing_sought : (v : Sought) → seeks_some v ≡ false → (ps : List PlacedPlan) → sift v ps ≡ []
nothing_sought every_kind e ps = let no : true ≡ false = e in absurd cc
nothing_sought (these_kinds (k ∷ ks)) e ps = let no : true ≡ false = e in absurd cc
nothing_sought (these_kinds []) e [] = refl
nothing_sought (these_kinds []) e (made p ∷ ps) = nothing_sought (these_kinds []) e ps
nothing_sought (these_kinds []) e (awaited n steps ∷ ps) =
    ap (λ z. (if z then gap n ∷ [] else []) ++ sift (these_kinds []) ps) (none_beside steps (these_kinds []) inside refl)
    ∙ nothing_sought (these_kinds []) e ps

-- others in the places of plans
abbrev pub fill : (OpenPlan → List PlanOrGap) → List PlanOrGap → List PlanOrGap
fill g ps = flat_map (in_its_place g) ps

abbrev no_plans : List PlanOrGap
no_plans = []

-- what is sought above a step is what comes of what is sought below it
pub sift_stepped : (step : Step) (v : Sought) (f : OpenPlan → List PlacedPlan) (g : OpenPlan → List PlanOrGap) →
    ((p : OpenPlan) → sift v (f p) ≡ (if is_sought (sought_below step v) p.kind then g p else [])) →
    (ps : List PlacedPlan) → sift v (flat_map (stepped step f) ps) ≡ fill g (sift (sought_below step v) ps)
sift_stepped step v f g h [] = refl
sift_stepped step v f g h (made p ∷ ps) =
    flat_map-append (plans_sought v) (f p) (flat_map (stepped step f) ps)
    ∙ ap (λ z. z ++ sift v (flat_map (stepped step f) ps)) (h p)
    ∙ by_test (is_sought (sought_below step v) p.kind) (sift_stepped step v f g h ps)
  where
    by_test : (b : Bool) → sift v (flat_map (stepped step f) ps) ≡ fill g (sift (sought_below step v) ps) →
        (if b then g p else []) ++ sift v (flat_map (stepped step f) ps) ≡
        fill g ((if b then element p ∷ [] else []) ++ sift (sought_below step v) ps)
    by_test true e = ap (λ z. g p ++ z) e
    by_test false e = e
sift_stepped step v f g h (awaited n steps ∷ ps) =
    ap (λ u. (if seeks_some u then gap n ∷ [] else []) ++ sift v (flat_map (stepped step f) ps)) (at_last steps step v)
    ∙ by_test (seeks_some (sought_at steps (sought_below step v))) (sift_stepped step v f g h ps)
  where
    by_test : (b : Bool) → sift v (flat_map (stepped step f) ps) ≡ fill g (sift (sought_below step v) ps) →
        (if b then gap n ∷ [] else []) ++ sift v (flat_map (stepped step f) ps) ≡
        fill g ((if b then gap n ∷ [] else []) ++ sift (sought_below step v) ps)
    by_test true e = ap (λ z. gap n ∷ z) e
    by_test false e = e

-- without a step, where actions stay of their kinds
pub sift_turned : (v : Sought) (f : OpenPlan → OpenPlan) → ((p : OpenPlan) → (f p).kind ≡ p.kind) → (ps : List PlacedPlan) →
    sift v (map (turned_there f) ps) ≡ fill (λ p. element (f p) ∷ []) (sift v ps)
sift_turned v f h [] = refl
sift_turned v f h (made p ∷ ps) =
    ap (λ k. (if is_sought v k then element (f p) ∷ [] else []) ++ sift v (map (turned_there f) ps)) (h p)
    ∙ by_test (is_sought v p.kind) (sift_turned v f h ps)
  where
    by_test : (b : Bool) → sift v (map (turned_there f) ps) ≡ fill (λ p. element (f p) ∷ []) (sift v ps) →
        (if b then element (f p) ∷ [] else []) ++ sift v (map (turned_there f) ps) ≡
        fill (λ p. element (f p) ∷ []) ((if b then element p ∷ [] else []) ++ sift v ps)
    by_test true e = ap (λ z. element (f p) ∷ z) e
    by_test false e = e
sift_turned v f h (awaited n steps ∷ ps) = by_test (seeks_some (sought_at steps v)) (sift_turned v f h ps)
  where
    by_test : (b : Bool) → sift v (map (turned_there f) ps) ≡ fill (λ p. element (f p) ∷ []) (sift v ps) →
        (if b then gap n ∷ [] else []) ++ sift v (map (turned_there f) ps) ≡
        fill (λ p. element (f p) ∷ []) ((if b then gap n ∷ [] else []) ++ sift v ps)
    by_test true e = ap (λ z. gap n ∷ z) e
    by_test false e = e

pub as_stepped : (o : Unary) (ps : List PlacedPlan) →
    map (placed_over_one o) ps ≡ flat_map (stepped (under_one o) (λ p. made (over_one o p) ∷ [])) ps
as_stepped o [] = refl
as_stepped o (made p ∷ ps) = ap (λ z. made (over_one o p) ∷ z) (as_stepped o ps)
as_stepped o (awaited n steps ∷ ps) = ap (λ z. awaited n (steps ++ under_one o ∷ []) ∷ z) (as_stepped o ps)

pub kind_of_either : (b : Bool) (p q : OpenPlan) → (if b then p else q).kind ≡ (if b then p.kind else q.kind)
kind_of_either true p q = refl
kind_of_either false p q = refl

pub same_either : (b : Bool) (k : Kind) → (if b then k else k) ≡ k
same_either true k = refl
same_either false k = refl

none_of_none : (b : Bool) → no_plans ≡ (if b then [] else [])
none_of_none true = refl
none_of_none false = refl

-- an action under an operator is sought where it is sought below it
over_is_sought : (o : Unary) (v : Sought) (p : OpenPlan) → is_sought v (over_one o p).kind ≡ is_sought (sought_below (under_one o) v) p.kind
over_is_sought (hidden gates) v p =
    ap (is_sought v) (kind_of_either (is_hidden gates p.kind) (turned_by plans.hidden p) (under_row Pass p))
    ∙ sym (below_is_above (under_one (hidden gates)) v p.kind (if is_hidden gates p.kind then inside else p.kind) refl)
over_is_sought (nodes.relabelled pairs) v p =
    sym (below_is_above (under_one (nodes.relabelled pairs)) v p.kind (renamed_kind pairs p.kind) refl)
over_is_sought (enabled xs right values) v p =
    ap (is_sought v) (kind_of_either (is_end p.kind) (turned_by plans.handed_on p) (under_row Enstep p))
    ∙ sym (below_is_above (under_one (enabled xs right values)) v p.kind (if is_end p.kind then inside else p.kind) refl)

pub one_over : (o : Unary) (v : Sought) (p : OpenPlan) →
    sift v (made (over_one o p) ∷ []) ≡ (if is_sought (sought_below (under_one o) v) p.kind then element (over_one o p) ∷ [] else [])
one_over o v p =
    by_test (is_sought v (over_one o p).kind)
    ∙ ap (λ z. if z then element (over_one o p) ∷ [] else []) (over_is_sought o v p)
  where
    by_test : (b : Bool) → (if b then element (over_one o p) ∷ [] else []) ++ [] ≡ (if b then element (over_one o p) ∷ [] else [])
    by_test true = refl
    by_test false = refl

pub one_alone : (gates : Synchronised) (row : Row) (v : Sought) (p : OpenPlan) →
    sift v (map made (plans_alone gates row p)) ≡
    (if is_sought (sought_below (by_itself gates) v) p.kind then map element (plans_alone gates row p) else [])
one_alone gates row v p = by_alone (is_alone gates p.kind) refl
  where
    by_sought : (b : Bool) → (if b then element (under_row row p) ∷ [] else []) ++ [] ≡ (if b then element (under_row row p) ∷ [] else [])
    by_sought true = refl
    by_sought false = refl

    by_alone : (b : Bool) → is_alone gates p.kind ≡ b →
        sift v (map made (if b then under_row row p ∷ [] else [])) ≡
        (if is_sought (sought_below (by_itself gates) v) p.kind then map element (if b then under_row row p ∷ [] else []) else [])
    by_alone true e =
        by_sought (is_sought v p.kind)
        ∙ ap (λ z. if z then element (under_row row p) ∷ [] else [])
        (sym (below_is_above (by_itself gates) v p.kind p.kind (if_true (is_alone gates p.kind) (Some p.kind) None e)))
    by_alone false e = none_of_none (is_sought (sought_below (by_itself gates) v) p.kind)

module _ (theory : Theory) (gates : Synchronised) (v : Sought) (p : OpenPlan) where
  one_joint : (q : OpenPlan) →
      sift v (map made (plans_joint theory gates p q)) ≡
      (if is_sought (sought_below (as_another p.kind) v) q.kind then map element (plans_joint theory gates p q) else [])
  one_joint q = by_same (same_kind p.kind q.kind) refl
    where
      by_parts : (o : Option (List OpenField)) (j b : Bool) → is_sought v p.kind ≡ b →
          sift v (map made (if j then from_option o (λ fields. paired_plan p q fields ∷ []) else [])) ≡
          (if b then map element (if j then from_option o (λ fields. paired_plan p q fields ∷ []) else []) else [])
      by_parts (Some fields) true true e = ap (λ z. (if z then element (paired_plan p q fields) ∷ [] else []) ++ []) e
      by_parts (Some fields) true false e = ap (λ z. (if z then element (paired_plan p q fields) ∷ [] else []) ++ []) e
      by_parts None true b e = none_of_none b
      by_parts o false b e = none_of_none b

      by_same : (b : Bool) → same_kind p.kind q.kind ≡ b →
          sift v (map made (if b && is_joint gates p.kind then from_option (all_together theory p.fields q.fields)
          (λ fields. paired_plan p q fields ∷ []) else [])) ≡
          (if is_sought (sought_below (as_another p.kind) v) q.kind
          then map element (if b && is_joint gates p.kind then from_option (all_together theory p.fields q.fields)
          (λ fields. paired_plan p q fields ∷ []) else [])
          else [])
      by_same true e =
          by_parts (all_together theory p.fields q.fields) (is_joint gates p.kind) (is_sought (sought_below (as_another p.kind) v) q.kind)
          (ap (is_sought v) (kinds_same p.kind q.kind e)
          ∙ sym (below_is_above (as_another p.kind) v q.kind q.kind (if_true (same_kind p.kind q.kind) (Some q.kind) None e)))
      by_same false e = none_of_none (is_sought (sought_below (as_another p.kind) v) q.kind)

  -- the partners of a plan whose action is sought
  abbrev pub partners_sought : List PlacedPlan → List PlanOrGap
  partners_sought qs =
      if is_joint gates p.kind
      then fill (λ q. map element (plans_joint theory gates p q)) (sift (sought_below (as_another p.kind) v) qs)
      else []

  none_sifted : is_sought v p.kind ≡ false → (qs : List PlacedPlan) → sift (sought_below (as_another p.kind) v) qs ≡ []
  none_sifted e [] = refl
  none_sifted e (made q ∷ qs) =
      ap (λ z. (if z then element q ∷ [] else []) ++ sift (sought_below (as_another p.kind) v) qs)
      (none_is_sought (sought_below (as_another p.kind) v) q.kind (none_beside [] v p.kind e))
      ∙ none_sifted e qs
  none_sifted e (awaited n steps ∷ qs) =
      ap (λ z. (if z then gap n ∷ [] else []) ++ sift (sought_below (as_another p.kind) v) qs) (none_beside steps v p.kind e)
      ∙ none_sifted e qs

  pub all_partners : (qs : List PlacedPlan) →
      sift v (placed_partners theory gates qs p) ≡
      (if is_sought (sought_below (with_another gates) v) p.kind then partners_sought qs else [])
  all_partners qs = by_joint (is_joint gates p.kind) refl
    where
      is_found : sift v (flat_map (stepped (as_another p.kind) (λ q. map made (plans_joint theory gates p q))) qs) ≡
          fill (λ q. map element (plans_joint theory gates p q)) (sift (sought_below (as_another p.kind) v) qs)
      is_found =
          sift_stepped (as_another p.kind) v (λ q. map made (plans_joint theory gates p q)) (λ q. map element (plans_joint theory gates p q))
          one_joint qs

      by_sought : (b : Bool) → is_sought v p.kind ≡ b →
          sift v (flat_map (stepped (as_another p.kind) (λ q. map made (plans_joint theory gates p q))) qs) ≡
          (if b then fill (λ q. map element (plans_joint theory gates p q)) (sift (sought_below (as_another p.kind) v) qs) else [])
      by_sought true e = is_found
      by_sought false e = is_found ∙ ap (fill (λ q. map element (plans_joint theory gates p q))) (none_sifted e qs)

      by_joint : (b : Bool) → is_joint gates p.kind ≡ b →
          sift v (if b then flat_map (stepped (as_another p.kind) (λ q. map made (plans_joint theory gates p q))) qs else []) ≡
          (if is_sought (sought_below (with_another gates) v) p.kind
          then (if b then fill (λ q. map element (plans_joint theory gates p q)) (sift (sought_below (as_another p.kind) v) qs) else [])
          else [])
      by_joint true e =
          by_sought (is_sought v p.kind) refl
          ∙ ap (λ z. if z then fill (λ q. map element (plans_joint theory gates p q)) (sift (sought_below (as_another p.kind) v) qs) else [])
          (sym (below_is_above (with_another gates) v p.kind p.kind (if_true (is_joint gates p.kind) (Some p.kind) None e)))
      by_joint false e = none_of_none (is_sought (sought_below (with_another gates) v) p.kind)

module _ (theory : Theory) (w : Windows) (items : ℕ → Option (List Composite)) where
  abbrev of : OpenPlan → Composite
  of p = composite_of theory w p

  abbrev turn : PlanOrGap → OrGap Composite
  turn x = composite_or_gap theory w x

  abbrev gaps : Lazy Composite Composite → List (OrGap Composite)
  gaps l = with_gaps items l

  laws : PartsAreSo Composite Composite Composite
  laws = parts_are_so Composite Composite Composite

  plans_made : PlansAreOfComposites theory w
  plans_made = plans_make_composites theory w

  elements : (ps : List OpenPlan) → map turn (map element ps) ≡ map element (map of ps)
  elements [] = refl
  elements (p ∷ ps) = ap (λ z. element (of p) ∷ z) (elements ps)

  -- others in the places of plans, and of their composites
  placed : (f : OpenPlan → List PlanOrGap) (g : Composite → List (OrGap Composite)) → ((p : OpenPlan) → map turn (f p) ≡ g (of p)) →
      (ps : List PlanOrGap) → map turn (flat_map (in_its_place f) ps) ≡ flat_map (in_its_place g) (map turn ps)
  placed f g h [] = refl
  placed f g h (element p ∷ ps) =
      map-append turn (f p) (flat_map (in_its_place f) ps)
      ∙ ap (λ z. z ++ map turn (flat_map (in_its_place f) ps)) (h p) ∙ ap (λ z. g (of p) ++ z) (placed f g h ps)
  placed f g h (gap n ∷ ps) = ap (λ z. gap n ∷ z) (placed f g h ps)

  filled : (f : OpenPlan → List PlanOrGap) (k : Composite → Lazy Composite Composite) → ((p : OpenPlan) → map turn (f p) ≡ gaps (k (of p))) →
      (ps : List PlanOrGap) (l : Lazy Composite Composite) → map turn ps ≡ gaps l → map turn (fill f ps) ≡ gaps (each k l)
  filled f k h ps l e =
      placed f (λ c. gaps (k c)) h ps ∙ ap (flat_map (in_its_place (λ c. gaps (k c)))) e ∙ sym (laws.flat items k l)

  -- one in the place of each
  by_ones : (f : OpenPlan → OpenPlan) (k : Composite → Composite) → ((p : OpenPlan) → of (f p) ≡ k (of p)) →
      (ps : List PlanOrGap) (l : Lazy Composite Composite) → map turn ps ≡ gaps l →
      map turn (fill (λ p. element (f p) ∷ []) ps) ≡ gaps (each_as k l)
  by_ones f k h ps l e = filled (λ p. element (f p) ∷ []) (λ c. cons (k c) nil) (λ p. ap (λ z. element z ∷ []) (h p)) ps l e

  -- some in the place of each
  by_lists : (f : OpenPlan → List OpenPlan) (k : Composite → List Composite) → ((p : OpenPlan) → map of (f p) ≡ k (of p)) →
      (ps : List PlanOrGap) (l : Lazy Composite Composite) → map turn ps ≡ gaps l →
      map turn (fill (λ p. map element (f p)) ps) ≡ gaps (each (λ c. of_list (k c)) l)
  by_lists f k h ps l e =
      filled (λ p. map element (f p)) (λ c. of_list (k c))
      (λ p. elements (f p) ∙ ap (map element) (h p) ∙ sym (laws.listed items (k (of p)))) ps l e

  join : (ps qs : List PlacedPlan) (v : Sought) (l k : Lazy Composite Composite) → map turn (sift v ps) ≡ gaps l →
      map turn (sift v qs) ≡ gaps k → map turn (sift v (ps ++ qs)) ≡ gaps (joined l k)
  join ps qs v l k e f =
      ap (map turn) (flat_map-append (plans_sought v) ps qs)
      ∙ map-append turn (sift v ps) (sift v qs)
      ∙ ap (λ z. z ++ map turn (sift v qs)) e ∙ ap (λ z. gaps l ++ z) f ∙ sym (laws.joins items l k)

  turns : (f : OpenPlan → OpenPlan) (k : Composite → Composite) → ((p : OpenPlan) → of (f p) ≡ k (of p)) →
      ((p : OpenPlan) → (f p).kind ≡ p.kind) → (v : Sought) (ps : List PlacedPlan) (l : Lazy Composite Composite) →
      map turn (sift v ps) ≡ gaps l → map turn (sift v (map (turned_there f) ps)) ≡ gaps (each_as k l)
  turns f k h same v ps l e = ap (map turn) (sift_turned v f same ps) ∙ by_ones f k h (sift v ps) l e

  alones : (gates : Synchronised) (row : Row) (v : Sought) (ps : List PlacedPlan) (l : Lazy Composite Composite) →
      map turn (sift (sought_below (by_itself gates) v) ps) ≡ gaps l →
      map turn (sift v (placed_alone gates row ps)) ≡ gaps (each (λ c. of_list (alone gates (put_row row) c)) l)
  alones gates row v ps l e =
      ap (map turn) (sift_stepped (by_itself gates) v (λ p. map made (plans_alone gates row p)) (λ p. map element (plans_alone gates row p))
      (one_alone gates row v) ps)
      ∙ by_lists (plans_alone gates row) (alone gates (put_row row)) (plans_made.one_alone gates row) (sift (sought_below (by_itself gates) v) ps) l e

  partner : (gates : Synchronised) (v : Sought) (p : OpenPlan) (qs : List PlacedPlan) (k : Lazy Composite Composite) →
      map turn (sift (sought_below (as_another p.kind) v) qs) ≡ gaps k →
      map turn (partners_sought theory gates v p qs) ≡
      gaps (where_asked (is_joint gates p.kind) (each (λ d. of_list (joint theory gates (of p) d)) k))
  partner gates v p qs k e = by_test (is_joint gates p.kind)
    where
      by_test : (b : Bool) →
          map turn (if b then fill (λ q. map element (plans_joint theory gates p q)) (sift (sought_below (as_another p.kind) v) qs) else []) ≡
          gaps (where_asked b (each (λ d. of_list (joint theory gates (of p) d)) k))
      by_test true =
          by_lists (plans_joint theory gates p) (joint theory gates (of p)) (λ q. plans_made.one_joint gates p q)
          (sift (sought_below (as_another p.kind) v) qs) k e
      by_test false = refl

  togethers : (gates : Synchronised) (v : Sought) (ps qs : List PlacedPlan) (l : Lazy Composite Composite)
      (k : Kind → Lazy Composite Composite) → map turn (sift (sought_below (with_another gates) v) ps) ≡ gaps l →
      ((j : Kind) → map turn (sift (sought_below (as_another j) v) qs) ≡ gaps (k j)) →
      map turn (sift v (flat_map (stepped (with_another gates) (placed_partners theory gates qs)) ps)) ≡ gaps (together theory w gates l k)
  togethers gates v ps qs l k e f =
      ap (map turn) (sift_stepped (with_another gates) v (placed_partners theory gates qs) (λ p. partners_sought theory gates v p qs)
      (λ p. all_partners theory gates v p qs) ps)
      ∙ filled (λ p. partners_sought theory gates v p qs)
      (λ c. where_asked (is_joint gates c.kind) (each (λ d. of_list (joint theory gates c d)) (k c.kind)))
      (λ p. partner gates v p qs (k p.kind) (f p.kind)) (sift (sought_below (with_another gates) v) ps) l e

  one_part : (o : Unary) (k : Composite → Composite) → ((p : OpenPlan) → of (over_one o p) ≡ k (of p)) → (v : Sought)
      (ps : List PlacedPlan) (l : Lazy Composite Composite) → map turn (sift (sought_below (under_one o) v) ps) ≡ gaps l →
      map turn (sift v (map (placed_over_one o) ps)) ≡ gaps (each_as k l)
  one_part o k h v ps l e =
      ap (λ z. map turn (sift v z)) (as_stepped o ps)
      ∙ ap (map turn) (sift_stepped (under_one o) v (λ p. made (over_one o p) ∷ []) (λ p. element (over_one o p) ∷ []) (one_over o v) ps)
      ∙ by_ones (over_one o) k h (sift (sought_below (under_one o) v) ps) l e

  over_part : (o : Unary) (x : Shape) → ((v : Sought) → map turn (sift v (placed_plans theory x)) ≡ gaps (waiting_composites theory w x v)) →
      (v : Sought) → map turn (sift v (placed_plans theory (over o x))) ≡ gaps (waiting_composites theory w (over o x) v)
  over_part (hidden gates) x h v =
      let u = sought_below (under_one (hidden gates)) v in
      one_part (hidden gates) (by_hiding theory w gates) (plans_made.one_hiding gates) v (placed_plans theory x)
      (waiting_composites theory w x u) (h u)
  over_part (nodes.relabelled pairs) x h v =
      let u = sought_below (under_one (nodes.relabelled pairs)) v in
      one_part (nodes.relabelled pairs) (relabelled pairs) (λ p. refl) v (placed_plans theory x) (waiting_composites theory w x u) (h u)
  over_part (enabled xs right values) x h v =
      let u = sought_below (under_one (enabled xs right values)) v in
      one_part (enabled xs right values) (by_enabling theory w) plans_made.one_enabling v (placed_plans theory x)
      (waiting_composites theory w x u) (h u)

  two_parts : (o : Binary) (x y : Shape) →
      ((v : Sought) → map turn (sift v (placed_plans theory x)) ≡ gaps (waiting_composites theory w x v)) →
      ((v : Sought) → map turn (sift v (placed_plans theory y)) ≡ gaps (waiting_composites theory w y v)) →
      (v : Sought) → map turn (sift v (placed_plans theory (between o x y))) ≡ gaps (waiting_composites theory w (between o x y) v)
  two_parts choosing x y h i v =
      let ps = placed_plans theory x in
      let qs = placed_plans theory y in
      let l = waiting_composites theory w x v in
      let k = waiting_composites theory w y v in
      join (map (turned_there (under_row Chl)) ps) (map (turned_there (under_row Chr)) qs) v (each_as (under chl) l) (each_as (under chr) k)
      (turns (under_row Chl) (under chl) (λ p. refl) (λ p. refl) v ps l (h v))
      (turns (under_row Chr) (under chr) (λ p. refl) (λ p. refl) v qs k (i v))
  two_parts (beside gates) x y h i v =
      let ps = placed_plans theory x in
      let qs = placed_plans theory y in
      let u = sought_below (by_itself gates) v in
      let l = waiting_composites theory w x in
      let k = waiting_composites theory w y in
      let right = placed_alone gates Parr qs in
      let both = flat_map (stepped (with_another gates) (placed_partners theory gates qs)) ps in
      let rights = each (λ c. of_list (alone gates parr c)) (k u) in
      let boths = together theory w gates (l (sought_below (with_another gates) v)) (λ j. k (sought_below (as_another j) v)) in
      join (placed_alone gates Parl ps) (right ++ both) v (each (λ c. of_list (alone gates parl c)) (l u)) (joined rights boths)
      (alones gates Parl v ps (l u) (h u))
      (join right both v rights boths (alones gates Parr v qs (k u) (i u))
      (togethers gates v ps qs (l (sought_below (with_another gates) v)) (λ j. k (sought_below (as_another j) v))
      (h (sought_below (with_another gates) v)) (λ j. i (sought_below (as_another j) v))))
  two_parts disabling x y h i v =
      let ps = placed_plans theory x in
      let qs = placed_plans theory y in
      let l = waiting_composites theory w x v in
      let k = waiting_composites theory w y v in
      join (map (turned_there plan_by_disabling) ps) (map (turned_there (under_row Distake)) qs) v (each_as by_disabling l)
      (each_as (under distake) k)
      (turns plan_by_disabling by_disabling plans_made.one_disabling
      (λ p. kind_of_either (is_end p.kind) (under_row Disend p) (under_row Disstep p) ∙ same_either (is_end p.kind) p.kind) v ps l (h v))
      (turns (under_row Distake) (under distake) (λ p. refl) (λ p. refl) v qs k (i v))

  those_made : (v : Sought) (ps : List OpenPlan) → map turn (sift v (map made ps)) ≡ map element (sought_of v (map of ps))
  those_made v [] = refl
  those_made v (p ∷ ps) = by_test (is_sought v p.kind) (those_made v ps)
    where
      by_test : (b : Bool) → map turn (sift v (map made ps)) ≡ map element (sought_of v (map of ps)) →
          map turn ((if b then element p ∷ [] else []) ++ sift v (map made ps)) ≡
          map element (cond b (of p ∷ sought_of v (map of ps)) (sought_of v (map of ps)))
      by_test true e = ap (λ z. element (of p) ∷ z) e
      by_test false e = e

  at_node : (v : Sought) (g : ℕ) (work : Option Work) (o : Option (List Composite)) →
      o ≡ option_map (λ (x : Work). map of x.plans) work → (b : Bool) → seeks_some v ≡ b →
      map turn (sift v (placed_at g work)) ≡
      (if b then unless_known o (gap g) (gaps (of_list (sought_of v (known_or o [])))) else [])
  at_node v g None None e true f = ap (λ z. map turn ((if z then gap g ∷ [] else []) ++ [])) f
  at_node v g None None e false f = ap (λ z. map turn ((if z then gap g ∷ [] else []) ++ [])) f
  at_node v g None (Some cs) e b f = let no : ⊥ = cc in absurd no
  at_node v g (Some x) None e b f = let no : ⊥ = cc in absurd no
  at_node v g (Some x) (Some cs) e true f =
      let same : cs ≡ map of x.plans = cc in
      those_made v x.plans ∙ ap (λ z. map element (sought_of v z)) (sym same) ∙ sym (laws.listed items (sought_of v cs))
  at_node v g (Some x) (Some cs) e false f =
      those_made v x.plans
      ∙ ap (map element) (filter_none (λ (c : Composite). is_sought v c.kind) (map of x.plans) (λ c. none_is_sought v c.kind f))

  if_asked : (b : Bool) (l : Lazy Composite Composite) → gaps (where_asked b l) ≡ (if b then gaps l else [])
  if_asked true l = refl
  if_asked false l = refl

  pub known_are_those : (t : Shape) → AreExpanded theory w items t → (v : Sought) →
      map turn (sift v (placed_plans theory t)) ≡ gaps (waiting_composites theory w t v)
  known_are_those (leaf n) h v =
      at_node v n.generation n.work (items n.generation) (h [] n refl) (seeks_some v) refl
      ∙ sym (if_asked (seeks_some v) (waits n.generation (λ cs. of_list (sought_of v cs))))
  known_are_those ended h v = refl
  known_are_those (over o x) h v = over_part o x (known_are_those x (λ up n i. h (above_one o ∷ up) n (refl, i))) v
  known_are_those (between o x y) h v =
      two_parts o x y (known_are_those x (λ up n i. h (first_of o ∷ up) n (refl, i)))
      (known_are_those y (λ up n i. h (second_of o ∷ up) n (refl, i))) v

pub known_plans_are_those : KnownPlansAreThose
known_plans_are_those theory w items t h v = known_are_those theory w items t h v
