-- A tree that searches among what is expanded look at is one of a composite of what the tree of nodes stands for.
use Rattle.std.proofs.Common.{ℕ, inl, inr, ◌⊎◌, List, [], ◌∷◌, ◌++◌, map, flat_map, ap, ◌∙◌, subst, Option, Some, None, Bool}
use Rattle.std.proofs.Common.{true, false, length, if◌then◌else◌}
use Rattle.spec_core.specs.Code.{Program, Synchronised}
use Rattle.spec_core.specs.Lists.{Each, IsOneOf}
use Rattle.spec_core.specs.Theories.{Theory}
use Rattle.spec_core.proofs.Lists.{each_implied}
use Rattle.spec_core.proofs.Members.{one_flat_map, one_map, one_left, one_parts, one_right}
use Rattle.rule_model.specs.Derivations.{Derivation}
use Rattle.symbolic_rules.specs.Windows.{Windows}
use Rattle.symbolic_rules.specs.MarkedTerms.{unmarked}
use Rattle.decision_trees.specs.Gaps.{OrGap, element, gap, in_its_place}
use Rattle.symbolic_composites.specs.Evaluations.{Evaluation}
use Rattle.symbolic_composites.specs.Composites.{Composite, composites}
use Rattle.symbolic_composites.specs.Kinds.{is_joint}
use Rattle.symbolic_plans.specs.declared.scheme.Row.TheVariants.{Chl, Chr, Parl, Parr, Distake}
use Rattle.symbolic_plans.specs.OpenPlans.{OpenPlan, composite_of, under_row, plans_alone, plans_joint, plan_by_disabling}
use Rattle.symbolic_plans.specs.OpenPlans.{plans_of_parallel}
use Rattle.symbolic_plans.specs.Laws.{composites_of}
use Rattle.candidate_laws.specs.Asked.{TreeQuery}
use Rattle.candidate_laws.specs.Sought.{Sought}
use Rattle.candidate_laws.specs.Waiting.{trees_asked}
use Rattle.candidate_search.specs.Searches.{for_offer, asked_from}
use Rattle.candidate_verdicts.proofs.Found.{searches_find_all}
use Rattle.node_trees.specs.Origins.{Source}
use Rattle.node_trees.specs.Rests.{Work}
use Rattle.node_trees.specs.Shapes.{Shape, leaf, ended, over, between, Binary, choosing, beside, disabling, stands_for}
use Rattle.candidate_composites.specs.Known.{PlanOrGap, turned, each_turned, over_one, partners, over_two, known_plans, plans_at}
use Rattle.candidate_composites.specs.Known.{sought_plans}
use Rattle.candidate_count.proofs.Placed.{sought_plans_are_known}
use Rattle.candidates.specs.Listed.{kinds_sought, known_trees}
use Rattle.board_laws.proofs.Elements.{AreElements, elements_more, elements_listed, element_holds}
use Rattle.board_laws.proofs.NeededLists.{each_listed}
use Rattle.candidate_count.specs.Laws.{AreOwnPlans}
use Rattle.candidate_count.proofs.Sums.{plans_or, all_over_two, all_plans}
use Rattle.candidate_count.proofs.Below.{own, whole_own}
use Rattle.symbolic_plans.proofs.Own.{own_plans_are_those}

-- elements of lists that are made of others

of_element : {A : Type 0} (x : A) (xs : List A) → IsOneOf (element x) (map element xs) → IsOneOf x xs
of_element x [] i = absurd i
of_element x (y ∷ xs) (inl e) = inl cc
of_element x (y ∷ xs) (inr i) = inr (of_element x xs i)

-- what holds of the elements of lists with gaps that are made of others

elements_of : {A : Type 0} (R : A → Type 0) (xs : List A) → Each R xs → AreElements R (map element xs)
elements_of R [] h = tt
elements_of R (x ∷ xs) h = (h.0, elements_of R xs h.1)

elements_join : {A : Type 0} (R : A → Type 0) (l m : List (OrGap A)) → AreElements R l → AreElements R m → AreElements R (l ++ m)
elements_join R [] m h k = k
elements_join R (element a ∷ l) m h k = (h.0, elements_join R l m h.1 k)
elements_join R (gap g ∷ l) m h k = elements_join R l m h k

elements_placed : {A B : Type 0} (R : A → Type 0) (S : B → Type 0) (f : A → List (OrGap B)) → ((a : A) → R a → AreElements S (f a)) →
    (l : List (OrGap A)) → AreElements R l → AreElements S (flat_map (in_its_place f) l)
elements_placed R S f h [] k = tt
elements_placed R S f h (element a ∷ l) k =
    elements_join S (f a) (flat_map (in_its_place f) l) (h a k.0) (elements_placed R S f h l k.1)
elements_placed R S f h (gap g ∷ l) k = elements_placed R S f h l k

module _ (R S : OpenPlan → Type 0) where
  elements_turned : (f : OpenPlan → OpenPlan) → ((p : OpenPlan) → R p → S (f p)) → (ps : List PlanOrGap) → AreElements R ps →
      AreElements S (map (turned f) ps)
  elements_turned f h [] k = tt
  elements_turned f h (element p ∷ ps) k = (h p k.0, elements_turned f h ps k.1)
  elements_turned f h (gap g ∷ ps) k = elements_turned f h ps k

  elements_each : (f : OpenPlan → List OpenPlan) → ((p : OpenPlan) → R p → (q : OpenPlan) → IsOneOf q (f p) → S q) →
      (ps : List PlanOrGap) → AreElements R ps → AreElements S (each_turned f ps)
  elements_each f h ps k =
      elements_placed R S (λ p. map element (f p))
      (λ p r. elements_of S (f p) (each_implied (λ q. IsOneOf q (f p)) S (f p) (h p r) (each_listed (f p)))) ps k

-- this plan is one of these
abbrev Among : List OpenPlan → OpenPlan → Type 0
Among ps p = IsOneOf p ps

module _ (theory : Theory) where
  module _ (gates : Synchronised) (all every : List OpenPlan) (ps qs : List PlanOrGap) (h : AreElements (Among all) ps)
      (k : AreElements (Among every) qs) where
    abbrev lefts : List OpenPlan
    lefts = flat_map (plans_alone gates Parl) all

    abbrev rights : List OpenPlan
    rights = flat_map (plans_alone gates Parr) every

    abbrev joints : List OpenPlan
    joints = flat_map (λ p. flat_map (plans_joint theory gates p) every) all

    abbrev both_sides : OpenPlan → Type 0
    both_sides = Among (plans_of_parallel theory gates all every)

    with_partners : (p : OpenPlan) → Among all p → AreElements both_sides (partners theory gates qs p)
    with_partners p i = by_test (is_joint gates p.kind)
      where
        by_test : (b : Bool) → AreElements both_sides (if b then each_turned (plans_joint theory gates p) qs else [])
        by_test true =
            elements_each (Among every) both_sides (plans_joint theory gates p)
            (λ q j r m. one_right r lefts (rights ++ joints) (one_right r rights joints
            (one_flat_map (λ p. flat_map (plans_joint theory gates p) every) p all r i
            (one_flat_map (plans_joint theory gates p) q every r j m)))) qs k
        by_test false = tt

    beside_each_other : AreElements both_sides (over_two theory (beside gates) ps qs)
    beside_each_other =
        let left = each_turned (plans_alone gates Parl) ps in
        let right = each_turned (plans_alone gates Parr) qs in
        let both = flat_map (in_its_place (partners theory gates qs)) ps in
        elements_join both_sides left (right ++ both)
        (elements_each (Among all) both_sides (plans_alone gates Parl)
        (λ p i r m. one_left r lefts (rights ++ joints) (one_flat_map (plans_alone gates Parl) p all r i m)) ps h)
        (elements_join both_sides right both
        (elements_each (Among every) both_sides (plans_alone gates Parr)
        (λ q i r m. one_right r lefts (rights ++ joints) (one_left r rights joints (one_flat_map (plans_alone gates Parr) q every r i m))) qs k)
        (elements_placed (Among all) both_sides (partners theory gates qs) with_partners ps h))

  apart : (f g : OpenPlan → OpenPlan) (all every : List OpenPlan) (ps qs : List PlanOrGap) → AreElements (Among all) ps →
      AreElements (Among every) qs → AreElements (Among (map f all ++ map g every)) (map (turned f) ps ++ map (turned g) qs)
  apart f g all every ps qs h k =
      let whole = Among (map f all ++ map g every) in
      elements_join whole (map (turned f) ps) (map (turned g) qs)
      (elements_turned (Among all) whole f (λ p i. one_left (f p) (map f all) (map g every) (one_map f p all i)) ps h)
      (elements_turned (Among every) whole g (λ q i. one_right (g q) (map f all) (map g every) (one_map g q every i)) qs k)

  two : (o : Binary) (all every : List OpenPlan) (ps qs : List PlanOrGap) → AreElements (Among all) ps → AreElements (Among every) qs →
      AreElements (Among (all_over_two theory o all every)) (over_two theory o ps qs)
  two choosing all every ps qs h k = apart (under_row Chl) (under_row Chr) all every ps qs h k
  two (beside gates) all every ps qs h k = beside_each_other gates all every ps qs h k
  two disabling all every ps qs h k = apart plan_by_disabling (under_row Distake) all every ps qs h k

  module _ (of_node : Source → List OpenPlan) where
    at_node : (g : ℕ) (others : List OpenPlan) (o : Option Work) → AreElements (Among (plans_or others o)) (plans_at g o)
    at_node g others None = tt
    at_node g others (Some work) = elements_of (Among work.plans) work.plans (each_listed work.plans)

    -- the plans of a tree that are known are some of all its plans
    known_among : (t : Shape) → AreElements (Among (all_plans theory of_node t)) (known_plans theory t)
    known_among (leaf n) = at_node n.generation (of_node n.source) n.work
    known_among ended = tt
    known_among (over o x) =
        let all = all_plans theory of_node x in
        elements_turned (Among all) (Among (map (over_one o) all)) (over_one o) (λ p i. one_map (over_one o) p all i) (known_plans theory x)
        (known_among x)
    known_among (between o x y) =
        two o (all_plans theory of_node x) (all_plans theory of_node y) (known_plans theory x) (known_plans theory y) (known_among x)
        (known_among y)

    -- also those that are sought
    sought_among : (t : Shape) (v : Sought) → AreElements (Among (all_plans theory of_node t)) (sought_plans theory t v)
    sought_among t v =
        let all = all_plans theory of_node t in
        let l = sought_plans theory t v in
        elements_more (λ p. IsOneOf (element p) l) (Among all)
        (λ p i. element_holds (Among all) (known_plans theory t) p (known_among t) (sought_plans_are_known theory t v (element p) i)) l
        (elements_listed l)

module _ (theory : Theory) (w : Windows) (q : TreeQuery) where
  abbrev looked_at : OpenPlan → List Derivation
  looked_at p = asked_from theory w (for_offer q) p 0

  -- a tree that is looked at is one of a plan's
  record IsOfPlan (R : OpenPlan → Type 0) (d : Derivation) : Type 0 where
    pub plan : OpenPlan
    pub holds : R plan
    pub tree : IsOneOf d (looked_at plan)

  of_plans : (R : OpenPlan → Type 0) (ps : List PlanOrGap) → AreElements R ps → (d : Derivation) →
      IsOneOf (element d) (flat_map (in_its_place (λ p. map element (looked_at p))) ps) → IsOfPlan R d
  of_plans R [] h d i = absurd i
  of_plans R (gap g ∷ ps) h d (inl e) = let never : ⊥ = cc in absurd never
  of_plans R (gap g ∷ ps) h d (inr i) = of_plans R ps h d i
  of_plans R (element p ∷ ps) h d i =
      by_part (one_parts (element d) (map element (looked_at p)) (flat_map (in_its_place (λ p. map element (looked_at p))) ps) i)
      (λ j. of_plans R ps h.1 d j)
    where
      by_part : IsOneOf (element d) (map element (looked_at p)) ⊎
          IsOneOf (element d) (flat_map (in_its_place (λ p. map element (looked_at p))) ps) →
          (IsOneOf (element d) (flat_map (in_its_place (λ p. map element (looked_at p))) ps) → IsOfPlan R d) → IsOfPlan R d
      by_part (inl j) rest = record { plan = p; holds = h.0; tree = of_element d (looked_at p) j }
      by_part (inr j) rest = rest j

-- the tree is one of a composite's of the behaviour
pub record IsOfComposite (program : Program) (e : Evaluation) (w : Windows) (q : TreeQuery) (t : Shape) (d : Derivation) : Type 0 where
  pub composite : Composite
  pub among : IsOneOf composite (composites program.theory e w (length program.code) unmarked (stands_for program t))
  pub tree : IsOneOf d (trees_asked program.theory w q composite)

pub listed_of_composite : (program : Program) (e : Evaluation) (w : Windows) (q : TreeQuery) (t : Shape) → AreOwnPlans program e w t →
    (d : Derivation) → IsOneOf (element d) (known_trees program.theory w t q) → IsOfComposite program e w q t d
listed_of_composite program e w q t origins d i =
    let all = all_plans program.theory (own program e w) t in
    let v = kinds_sought (for_offer q) in
    let x = of_plans program.theory w q (Among all) (sought_plans program.theory t v) (sought_among program.theory (own program e w) t v) d i in
    record {
      composite = composite_of program.theory w x.plan;
      among =
          subst (λ (cs : List Composite). IsOneOf (composite_of program.theory w x.plan) cs)
          (ap (composites_of program.theory w) (whole_own program e w t origins)
          ∙ own_plans_are_those program.theory e w (length program.code) unmarked (stands_for program t))
          (one_map (composite_of program.theory w) x.plan all x.holds);
      tree = subst (λ (ds : List Derivation). IsOneOf d ds) (searches_find_all program.theory w q x.plan) x.tree;
    }
