-- Which gaps stand first among what is sought, operator by operator.
use Rattle.std.proofs.Common.{ℕ, ◌≡◌, ◌++◌, ◌||◌, ◌∙◌, List, [], ◌∷◌, map, filter, flat_map, refl, sym, ap, Bool, true, false, cond}
use Rattle.std.proofs.Common.{if◌then◌else◌, Option, Some, None, not, subst, append_assoc}
use Rattle.std.proofs.lemmas.Bool.{and_parts}
use Rattle.std.proofs.lemmas.List.{map-append, append-nil}
use Rattle.std.proofs.lemmas.List.Concat.{flat_map-append}
use Rattle.spec_core.specs.Theories.{Theory}
use Rattle.spec_core.specs.Code.{Synchronised}
use Rattle.rule_model.specs.Actions.{Kind}
use Rattle.decision_trees.specs.Gaps.{OrGap, gap, element, in_its_place}
use Rattle.symbolic_composites.specs.Kinds.{is_alone, is_end, same_kind}
use Rattle.symbolic_composites.proofs.Tests.{same_kind_so}
use Rattle.symbolic_plans.specs.declared.scheme.Row.TheVariants.{Chl, Chr, Parl, Parr, Distake, Disend, Disstep}
use Rattle.symbolic_plans.specs.OpenPlans.{OpenPlan, under_row, plans_alone, plan_by_disabling}
use Rattle.candidate_laws.specs.Sought.{Sought, these_kinds, is_one_kind, is_sought, seeks_some, becomes_one, is_one_above}
use Rattle.candidate_laws.specs.Sought.{under_one, by_itself, with_another, sought_below}
use Rattle.candidate_laws.proofs.Sought.{kinds_same}
use Rattle.node_trees.specs.declared.origin.Gen.{Gen}
use Rattle.node_trees.specs.Rests.{Work}
use Rattle.node_trees.specs.Shapes.{Shape, over, between, Unary, choosing, beside, disabling}
use Rattle.candidate_composites.specs.Foremost.{StandFirst, are_alone, gaps_of}
use Rattle.candidate_composites.specs.Joining.{free}
use Rattle.candidate_composites.specs.Kept.{is_kept}
use Rattle.candidate_composites.specs.Known.{PlanOrGap, PlacedPlan, made, has_made, plans_sought, over_one, stepped, turned_there}
use Rattle.candidate_composites.specs.Known.{placed_alone, placed_at, placed_partners, placed_plans, sought_plans}
use Rattle.candidate_composites.proofs.Those.{sift, fill, nothing_sought, sift_turned, kind_of_either, same_either, partners_sought}
use Rattle.candidate_composites.proofs.Kept.{alone_sifted, both_sifted, either_so, first_so, part_over}

-- gaps stay where others are put in the places of elements
gaps_stay : {A B : Type 0} (g : A → List (OrGap B)) (gens : List Gen) → flat_map (in_its_place g) (gaps_of gens) ≡ gaps_of gens
gaps_stay g [] = refl
gaps_stay g (n ∷ gens) = ap (λ z. gap n.0 ∷ z) (gaps_stay g gens)

-- and so do gaps with others behind them
behind_gaps : {A B : Type 0} (g : A → List (OrGap B)) (gens : List Gen) (l : List (OrGap A)) →
    flat_map (in_its_place g) (gaps_of gens ++ l) ≡ gaps_of gens ++ flat_map (in_its_place g) l
behind_gaps g gens l =
    flat_map-append (in_its_place g) (gaps_of gens) l ∙ ap (λ z. z ++ flat_map (in_its_place g) l) (gaps_stay g gens)

gap_there : {A : Type 0} (m n : ℕ) (k l : List (OrGap A)) → gap m ∷ k ≡ gap n ∷ l → m ≡ n
gap_there m n k l e = cc

behind_gap : {A : Type 0} (m n : ℕ) (k l : List (OrGap A)) → gap m ∷ k ≡ gap n ∷ l → k ≡ l
behind_gap m n k l e = cc

no_gap : {A : Type 0} (a : A) (n : ℕ) (k l : List (OrGap A)) → element a ∷ k ≡ gap n ∷ l → ⊥
no_gap a n k l e = cc

none_there : {A : Type 0} (x : A) (l : List A) → x ∷ l ≡ [] → ⊥
none_there x l e = cc

-- what stands first in two lists, one behind the other, stands first where others are put in the places of elements
pub both_filled : {A B : Type 0} (g h : A → List (OrGap B)) (alone : Bool) (gens : List Gen) (l m : List (OrGap A)) →
    StandFirst alone gens (l ++ m) → StandFirst alone gens (flat_map (in_its_place g) l ++ flat_map (in_its_place h) m)
both_filled g h true gens [] m i = ap (flat_map (in_its_place h)) i ∙ gaps_stay h gens
both_filled g h true [] (x ∷ l) m i = absurd (none_there x (l ++ m) i)
both_filled g h true (n ∷ gens) (gap k ∷ l) m i =
    ap (λ z. gap z ∷ (flat_map (in_its_place g) l ++ flat_map (in_its_place h) m)) (gap_there k n.0 (l ++ m) (gaps_of gens) i)
    ∙ ap (λ z. gap n.0 ∷ z) (both_filled g h true gens l m (behind_gap k n.0 (l ++ m) (gaps_of gens) i))
both_filled g h true (n ∷ gens) (element a ∷ l) m i = absurd (no_gap a n.0 (l ++ m) (gaps_of gens) i)
both_filled g h false [] l m i = (flat_map (in_its_place g) l ++ flat_map (in_its_place h) m, refl)
both_filled g h false (n ∷ gens) [] m i =
    (flat_map (in_its_place h) i.0, ap (flat_map (in_its_place h)) i.1 ∙ behind_gaps h (n ∷ gens) i.0)
both_filled g h false (n ∷ gens) (gap k ∷ l) m i =
    let so = both_filled g h false gens l m (i.0, behind_gap k n.0 (l ++ m) (gaps_of gens ++ i.0) i.1) in (
      so.0,
      ap (λ z. gap z ∷ (flat_map (in_its_place g) l ++ flat_map (in_its_place h) m)) (gap_there k n.0 (l ++ m) (gaps_of gens ++ i.0) i.1)
          ∙ ap (λ z. gap n.0 ∷ z) so.1,
    )
both_filled g h false (n ∷ gens) (element a ∷ l) m i = absurd (no_gap a n.0 (l ++ m) (gaps_of gens ++ i.0) i.1)

-- of one list
pub filled : {A B : Type 0} (g : A → List (OrGap B)) (alone : Bool) (gens : List Gen) (l : List (OrGap A)) → StandFirst alone gens l →
    StandFirst alone gens (flat_map (in_its_place g) l)
filled g alone gens l h = both_filled g g alone gens [] l h

-- the same behind other gaps
module _ {A B : Type 0} (g h : A → List (OrGap B)) (alone : Bool) (gens before : List Gen) where
  pub filled_behind : (l : List (OrGap A)) → StandFirst alone gens (gaps_of before ++ l) →
      StandFirst alone gens (gaps_of before ++ flat_map (in_its_place g) l)
  filled_behind l i = subst (StandFirst alone gens) (behind_gaps g before l) (filled g alone gens (gaps_of before ++ l) i)

  pub both_behind : (l m : List (OrGap A)) → StandFirst alone gens (gaps_of before ++ (l ++ m)) →
      StandFirst alone gens (gaps_of before ++ (flat_map (in_its_place g) l ++ flat_map (in_its_place h) m))
  both_behind l m i =
      subst (StandFirst alone gens)
      (ap (λ z. z ++ flat_map (in_its_place h) m) (behind_gaps g before l)
      ∙ append_assoc (gaps_of before) (flat_map (in_its_place g) l) (flat_map (in_its_place h) m))
      (both_filled g h alone gens (gaps_of before ++ l) m
      (subst (StandFirst alone gens) (sym (append_assoc (gaps_of before) l m)) i))

-- with more behind, which is looked at or not

module _ {A : Type 0} (gens before : List Gen) (l m : List (OrGap A)) where
  pub with_more : (alone : Bool) → StandFirst alone gens (gaps_of before ++ l) → StandFirst false gens (gaps_of before ++ (l ++ m))
  with_more true i = (m, sym (append_assoc (gaps_of before) l m) ∙ ap (λ z. z ++ m) i)
  with_more false i =
      (i.0 ++ m, sym (append_assoc (gaps_of before) l m) ∙ ap (λ z. z ++ m) i.1 ∙ append_assoc (gaps_of gens) i.0 m)

  pub and_behind : (alone : Bool) (more : List Gen) → StandFirst true gens (gaps_of before ++ l) →
      StandFirst alone more (gaps_of gens ++ m) → StandFirst alone more (gaps_of before ++ (l ++ m))
  and_behind alone more e i =
      subst (StandFirst alone more) (ap (λ z. z ++ m) (sym e) ∙ append_assoc (gaps_of before) l m) i

-- of a node that has no composite whose action is sought
pub none_kept : (v : Sought) (ps : List OpenPlan) → has_made (map made (filter (λ (p : OpenPlan). is_kept v free p.kind) ps)) ≡ false →
    sift v (map made ps) ≡ []
none_kept v [] e = refl
none_kept v (p ∷ ps) e = by_test (is_sought v p.kind) e (none_kept v ps)
  where
    by_test : (b : Bool) →
        has_made (map made (cond b (p ∷ filter (λ (q : OpenPlan). is_kept v free q.kind) ps) (filter (λ (q : OpenPlan). is_kept v free q.kind) ps))) ≡
        false →
        (has_made (map made (filter (λ (q : OpenPlan). is_kept v free q.kind) ps)) ≡ false → sift v (map made ps) ≡ []) →
        (if b then element p ∷ [] else []) ++ sift v (map made ps) ≡ []
    by_test true f h = let no : true ≡ false = f in absurd cc
    by_test false f h = h f

-- a node

pub at_waiting : (v : Sought) (gens : List Gen) (g : Gen) (work : Option Work) → work ≡ None → seeks_some v ≡ true →
    StandFirst true (gens ++ g ∷ []) (gaps_of gens ++ sift v (placed_at g.0 work))
at_waiting v gens g None e h =
    ap (λ b. gaps_of gens ++ ((if b then gap g.0 ∷ [] else []) ++ [])) h ∙ sym (map-append (λ (n : Gen). gap n.0) gens (g ∷ []))
at_waiting v gens g (Some x) e h = let no : ⊥ = cc in absurd no

-- where nothing is found, the gaps are alone
pub none_more : (gens : List Gen) (l : List PlanOrGap) → l ≡ [] → StandFirst true gens (gaps_of gens ++ l)
none_more gens l e = ap (λ z. gaps_of gens ++ z) e ∙ append-nil (gaps_of gens)

pub at_unsought : (v : Sought) (gens : List Gen) (ps : List PlacedPlan) → seeks_some v ≡ false →
    StandFirst true gens (gaps_of gens ++ sift v ps)
at_unsought v gens ps h = none_more gens (sift v ps) (nothing_sought v h ps)

-- these are the plans of its expansion
abbrev pub AreOf : List OpenPlan → Option Work → Type 0
AreOf ps None = ⊥
AreOf ps (Some work) = work.plans ≡ ps

at_expanded : (v : Sought) (g : ℕ) (work : Option Work) (ps : List OpenPlan) → AreOf ps work →
    has_made (map made (filter (λ (p : OpenPlan). is_kept v free p.kind) ps)) ≡ false → sift v (placed_at g work) ≡ []
at_expanded v g None ps e h = absurd e
at_expanded v g (Some x) ps e h = ap (λ z. sift v (map made z)) e ∙ none_kept v ps h

-- the gaps are alone where none of its composites is sought
pub at_node : (v : Sought) (gens : List Gen) (g : ℕ) (work : Option Work) (ps : List OpenPlan) (some : Bool) → AreOf ps work →
    some ≡ has_made (map made (filter (λ (p : OpenPlan). is_kept v free p.kind) ps)) →
    StandFirst (not some) gens (gaps_of gens ++ sift v (placed_at g work))
at_node v gens g work ps true e h = (sift v (placed_at g work), refl)
at_node v gens g work ps false e h = none_more gens (sift v (placed_at g work)) (at_expanded v g work ps e (sym h))

-- where a side does alone whatever is sought, the same is sought there

one_alone : (gates : Synchronised) (k : Kind) (ks : List Kind) → are_alone gates ks ≡ true → is_one_kind k ks ≡ true →
    is_alone gates k ≡ true
one_alone gates k [] e f = let no : false ≡ true = f in absurd cc
one_alone gates k (j ∷ ks) e f =
    let those = and_parts (is_alone gates j) (are_alone gates ks) e in
    by_test (same_kind k j) refl f those.0 (λ h. one_alone gates k ks those.1 h)
  where
    by_test : (b : Bool) → same_kind k j ≡ b → b || is_one_kind k ks ≡ true → is_alone gates j ≡ true →
        (is_one_kind k ks ≡ true → is_alone gates k ≡ true) → is_alone gates k ≡ true
    by_test true h i a rest = ap (is_alone gates) (kinds_same k j h) ∙ a
    by_test false h i a rest = rest i

all_pass : (p : Kind → Bool) (ks : List Kind) → ((k : Kind) → is_one_kind k ks ≡ true → p k ≡ true) → filter p (ks ++ []) ≡ ks
all_pass p [] h = refl
all_pass p (k ∷ ks) h =
    ap (λ b. cond b (k ∷ filter p (ks ++ [])) (filter p (ks ++ []))) (h k (first_so (same_kind k k) (is_one_kind k ks) (same_kind_so k k refl)))
    ∙ ap (λ z. k ∷ z) (all_pass p ks (λ j e. h j (either_so (same_kind j k) (is_one_kind j ks) e)))

pub same_alone : (gates : Synchronised) (ks : List Kind) → are_alone gates ks ≡ true →
    sought_below (by_itself gates) (these_kinds ks) ≡ these_kinds ks
same_alone gates ks e = ap these_kinds (all_pass (becomes_one (by_itself gates) ks) ks passes)
  where
    passes : (k : Kind) → is_one_kind k ks ≡ true → becomes_one (by_itself gates) ks k ≡ true
    passes k f = ap (λ b. is_one_above ks (if b then Some k else None)) (one_alone gates k ks e f) ∙ f

pub same_these : (gates : Synchronised) (v : Sought) (ks : List Kind) → v ≡ these_kinds ks → are_alone gates ks ≡ true →
    sought_below (by_itself gates) v ≡ v
same_these gates v ks e h = ap (sought_below (by_itself gates)) e ∙ same_alone gates ks h ∙ sym e

-- operator by operator

module _ (theory : Theory) (alone : Bool) (gens before : List Gen) (v : Sought) where
  pub foremost_over : (o : Unary) (x : Shape) → StandFirst alone gens (gaps_of before ++ sought_plans theory x (sought_below (under_one o) v)) →
      StandFirst alone gens (gaps_of before ++ sought_plans theory (over o x) v)
  foremost_over o x h =
      subst (λ z. StandFirst alone gens (gaps_of before ++ z)) (sym (part_over o v (placed_plans theory x)))
      (filled_behind (λ p. element (over_one o p) ∷ []) (λ p. element p ∷ []) alone gens before
      (sift (sought_below (under_one o) v) (placed_plans theory x)) h)

  -- each plan of either side is turned
  two_turned : (g h : OpenPlan → OpenPlan) → ((p : OpenPlan) → (g p).kind ≡ p.kind) → ((p : OpenPlan) → (h p).kind ≡ p.kind) →
      (ps qs : List PlacedPlan) → StandFirst alone gens (gaps_of before ++ (sift v ps ++ sift v qs)) →
      StandFirst alone gens (gaps_of before ++ sift v (map (turned_there g) ps ++ map (turned_there h) qs))
  two_turned g h d e ps qs i =
      subst (λ z. StandFirst alone gens (gaps_of before ++ z))
      (ap (λ z. z ++ fill (λ p. element (h p) ∷ []) (sift v qs)) (sym (sift_turned v g d ps))
      ∙ ap (λ z. sift v (map (turned_there g) ps) ++ z) (sym (sift_turned v h e qs))
      ∙ sym (flat_map-append (plans_sought v) (map (turned_there g) ps) (map (turned_there h) qs)))
      (both_behind (λ p. element (g p) ∷ []) (λ p. element (h p) ∷ []) alone gens before (sift v ps) (sift v qs) i)

  pub foremost_of_choice : (x y : Shape) → StandFirst alone gens (gaps_of before ++ (sought_plans theory x v ++ sought_plans theory y v)) →
      StandFirst alone gens (gaps_of before ++ sought_plans theory (between choosing x y) v)
  foremost_of_choice x y h =
      two_turned (under_row Chl) (under_row Chr) (λ p. refl) (λ p. refl) (placed_plans theory x) (placed_plans theory y) h

  pub foremost_of_disabling : (x y : Shape) → StandFirst alone gens (gaps_of before ++ (sought_plans theory x v ++ sought_plans theory y v)) →
      StandFirst alone gens (gaps_of before ++ sought_plans theory (between disabling x y) v)
  foremost_of_disabling x y h =
      two_turned plan_by_disabling (under_row Distake)
      (λ p. kind_of_either (is_end p.kind) (under_row Disend p) (under_row Disstep p) ∙ same_either (is_end p.kind) p.kind) (λ p. refl)
      (placed_plans theory x) (placed_plans theory y) h

-- a parallel composition: what its sides do alone, and behind it what they do together

module _ (theory : Theory) (v : Sought) (gates : Synchronised) (x y : Shape) where
  abbrev pub alones : List PlanOrGap
  alones = sought_plans theory x (sought_below (by_itself gates) v) ++ sought_plans theory y (sought_below (by_itself gates) v)

  abbrev filled_alones : List PlanOrGap
  filled_alones =
      fill (λ p. map element (plans_alone gates Parl p)) (sought_plans theory x (sought_below (by_itself gates) v)) ++
      fill (λ p. map element (plans_alone gates Parr p)) (sought_plans theory y (sought_below (by_itself gates) v))

  abbrev filled_boths : List PlanOrGap
  filled_boths =
      fill (λ p. partners_sought theory gates v p (placed_plans theory y)) (sought_plans theory x (sought_below (with_another gates) v))

  beside_is : sought_plans theory (between (beside gates) x y) v ≡ filled_alones ++ filled_boths
  beside_is =
      let ps = placed_plans theory x in
      let qs = placed_plans theory y in
      let left = placed_alone gates Parl ps in
      let right = placed_alone gates Parr qs in
      let both = flat_map (stepped (with_another gates) (placed_partners theory gates qs)) ps in
      flat_map-append (plans_sought v) left (right ++ both)
      ∙ ap (λ z. sift v left ++ z) (flat_map-append (plans_sought v) right both)
      ∙ sym (append_assoc (sift v left) (sift v right) (sift v both))
      ∙ ap (λ z. (z ++ sift v right) ++ sift v both) (alone_sifted gates Parl v ps)
      ∙ ap (λ z. (fill (λ p. map element (plans_alone gates Parl p)) (sift (sought_below (by_itself gates) v) ps) ++ z) ++ sift v both)
      (alone_sifted gates Parr v qs)
      ∙ ap (λ z. filled_alones ++ z) (both_sifted theory gates v (λ p. qs) ps)

  module _ (alone : Bool) (gens before : List Gen) (first : StandFirst alone gens (gaps_of before ++ alones)) where
    filled_first : StandFirst alone gens (gaps_of before ++ filled_alones)
    filled_first =
        both_behind (λ p. map element (plans_alone gates Parl p)) (λ p. map element (plans_alone gates Parr p)) alone gens before
        (sought_plans theory x (sought_below (by_itself gates) v)) (sought_plans theory y (sought_below (by_itself gates) v)) first

    pub foremost_alone : StandFirst false gens (gaps_of before ++ sought_plans theory (between (beside gates) x y) v)
    foremost_alone =
        subst (λ z. StandFirst false gens (gaps_of before ++ z)) (sym beside_is)
        (with_more gens before filled_alones filled_boths alone filled_first)

  pub foremost_together : (gens before : List Gen) → StandFirst true gens (gaps_of before ++ alones) → (alone : Bool) (more : List Gen) →
      StandFirst alone more (gaps_of gens ++ sought_plans theory x (sought_below (with_another gates) v)) →
      StandFirst alone more (gaps_of before ++ sought_plans theory (between (beside gates) x y) v)
  foremost_together gens before first alone more h =
      subst (λ z. StandFirst alone more (gaps_of before ++ z)) (sym beside_is)
      (and_behind gens before filled_alones filled_boths alone more (filled_first true gens before first)
      (filled_behind (λ p. partners_sought theory gates v p (placed_plans theory y)) (λ p. element p ∷ []) alone more gens
      (sought_plans theory x (sought_below (with_another gates) v)) h))

-- The same at trees that are known by equations.

module _ (theory : Theory) (alone : Bool) (gens before : List Gen) (t : Shape) (v : Sought) where
  pub at_over : (o : Unary) (x : Shape) (u : Sought) → t ≡ over o x → u ≡ sought_below (under_one o) v →
      StandFirst alone gens (gaps_of before ++ sought_plans theory x u) → StandFirst alone gens (gaps_of before ++ sought_plans theory t v)
  at_over o x u e d h =
      subst (λ s. StandFirst alone gens (gaps_of before ++ sought_plans theory s v)) (sym e)
      (foremost_over theory alone gens before v o x (subst (λ w. StandFirst alone gens (gaps_of before ++ sought_plans theory x w)) d h))

  pub at_choice : (x y : Shape) → t ≡ between choosing x y →
      StandFirst alone gens (gaps_of before ++ (sought_plans theory x v ++ sought_plans theory y v)) →
      StandFirst alone gens (gaps_of before ++ sought_plans theory t v)
  at_choice x y e h =
      subst (λ s. StandFirst alone gens (gaps_of before ++ sought_plans theory s v)) (sym e)
      (foremost_of_choice theory alone gens before v x y h)

  pub at_disabling : (x y : Shape) → t ≡ between disabling x y →
      StandFirst alone gens (gaps_of before ++ (sought_plans theory x v ++ sought_plans theory y v)) →
      StandFirst alone gens (gaps_of before ++ sought_plans theory t v)
  at_disabling x y e h =
      subst (λ s. StandFirst alone gens (gaps_of before ++ sought_plans theory s v)) (sym e)
      (foremost_of_disabling theory alone gens before v x y h)

  pub at_beside : (gates : Synchronised) (x y : Shape) → t ≡ between (beside gates) x y →
      StandFirst alone gens (gaps_of before ++ sought_plans theory (between (beside gates) x y) v) →
      StandFirst alone gens (gaps_of before ++ sought_plans theory t v)
  at_beside gates x y e h = subst (λ s. StandFirst alone gens (gaps_of before ++ sought_plans theory s v)) (sym e) h
