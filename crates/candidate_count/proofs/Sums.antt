-- Sums over the plans of a tree that are known, and over all of them.
use Rattle.std.proofs.Common.{ℕ, ◌≡◌, ◌≤◌, ◌+◌, ◌++◌, ◌∙◌, List, [], ◌∷◌, map, flat_map, refl, sym, ap, arith, Bool, true, false}
use Rattle.std.proofs.Common.{sum_by, Option, Some, None, if◌then◌else◌}
use Rattle.std.proofs.lemmas.List.Sums.{sum_by-append, sum_by-cons, sum_by-le-sum_by}
use Rattle.spec_core.specs.Theories.{Theory}
use Rattle.spec_core.specs.Code.{Synchronised}
use Rattle.decision_trees.specs.Gaps.{OrGap, element, gap, in_its_place}
use Rattle.symbolic_composites.specs.Kinds.{is_joint}
use Rattle.symbolic_plans.specs.declared.scheme.Row.TheVariants.{Chl, Chr, Parl, Parr, Distake}
use Rattle.symbolic_plans.specs.OpenPlans.{OpenPlan, under_row, plans_alone, plans_joint, plan_by_disabling}
use Rattle.symbolic_plans.specs.OpenPlans.{plans_of_choice, plans_of_parallel, plans_of_disable}
use Rattle.node_trees.specs.Origins.{Source}
use Rattle.node_trees.specs.Rests.{Work}
use Rattle.node_trees.specs.Shapes.{Shape, leaf, ended, over, between, Binary, choosing, beside, disabling}
use Rattle.candidate_composites.specs.Known.{PlanOrGap, turned, each_turned, over_one, partners, over_two, known_plans, plans_at}

-- the plans of a node: those of its work, or others
abbrev pub plans_or : List OpenPlan → Option Work → List OpenPlan
plans_or ps None = ps
plans_or ps (Some work) = work.plans

-- the plans of a parallel composition, a choice, and a disabling
abbrev pub all_over_two : Theory → Binary → List OpenPlan → List OpenPlan → List OpenPlan
all_over_two theory choosing ps qs = plans_of_choice ps qs
all_over_two theory (beside gates) ps qs = plans_of_parallel theory gates ps qs
all_over_two theory disabling ps qs = plans_of_disable ps qs

-- the plans of a tree, where these are those of what a node that waits stands for
abbrev pub all_plans : Theory → (Source → List OpenPlan) → Shape → List OpenPlan
all_plans theory own (leaf n) = plans_or (own n.source) n.work
all_plans theory own ended = []
all_plans theory own (over o x) = map (over_one o) (all_plans theory own x)
all_plans theory own (between o x y) = all_over_two theory o (all_plans theory own x) (all_plans theory own y)

-- what counts of a plan, or of a gap, which doesn't
abbrev pub known_part : {A : Type 0} → (A → ℕ) → OrGap A → ℕ
known_part f (element p) = f p
known_part f (gap g) = 0

-- sums by recursion
sum_cons : {A : Type 0} (f : A → ℕ) (x : A) (xs : List A) → sum_by f (x ∷ xs) ≡ f x + sum_by f xs
sum_cons f x xs = sum_by-cons f x xs

sum_map : {A B : Type 0} (f : B → ℕ) (g : A → B) (xs : List A) → sum_by f (map g xs) ≡ sum_by (λ x. f (g x)) xs
sum_map f g [] = refl
sum_map f g (x ∷ xs) =
    sum_cons f (g x) (map g xs) ∙ ap (λ z. f (g x) + z) (sum_map f g xs) ∙ sym (sum_cons (λ x. f (g x)) x xs)

sum_flat : {A B : Type 0} (f : B → ℕ) (g : A → List B) (xs : List A) → sum_by f (flat_map g xs) ≡ sum_by (λ x. sum_by f (g x)) xs
sum_flat f g [] = refl
sum_flat f g (x ∷ xs) =
    sum_by-append f (g x) (flat_map g xs) ∙ ap (λ z. sum_by f (g x) + z) (sum_flat f g xs) ∙ sym (sum_cons (λ x. sum_by f (g x)) x xs)

sum_same : {A : Type 0} (f g : A → ℕ) → ((x : A) → f x ≡ g x) → (xs : List A) → sum_by f xs ≡ sum_by g xs
sum_same f g h xs = λ i. sum_by (λ x. h x i) xs

-- what is put in the places of elements
part_turned : (f : OpenPlan → ℕ) (g : OpenPlan → OpenPlan) (x : PlanOrGap) → known_part f (turned g x) ≡ known_part (λ p. f (g p)) x
part_turned f g (element p) = refl
part_turned f g (gap n) = refl

part_elements : (f : OpenPlan → ℕ) (ps : List OpenPlan) → sum_by (known_part f) (map element ps) ≡ sum_by f ps
part_elements f ps = sum_map (known_part f) element ps

part_placed : (f : OpenPlan → ℕ) (g : OpenPlan → List PlanOrGap) (x : PlanOrGap) →
    sum_by (known_part f) (in_its_place g x) ≡ known_part (λ p. sum_by (known_part f) (g p)) x
part_placed f g (element p) = refl
part_placed f g (gap n) = refl

sum_turned : (f : OpenPlan → ℕ) (g : OpenPlan → OpenPlan) (ks : List PlanOrGap) →
    sum_by (known_part f) (map (turned g) ks) ≡ sum_by (known_part (λ p. f (g p))) ks
sum_turned f g ks = sum_map (known_part f) (turned g) ks ∙ sum_same (λ x. known_part f (turned g x)) (known_part (λ p. f (g p)))
    (part_turned f g) ks

sum_placed : (f : OpenPlan → ℕ) (g : OpenPlan → List PlanOrGap) (ks : List PlanOrGap) →
    sum_by (known_part f) (flat_map (in_its_place g) ks) ≡ sum_by (known_part (λ p. sum_by (known_part f) (g p))) ks
sum_placed f g ks =
    sum_flat (known_part f) (in_its_place g) ks
    ∙ sum_same (λ x. sum_by (known_part f) (in_its_place g x)) (known_part (λ p. sum_by (known_part f) (g p))) (part_placed f g) ks

part_same : {A : Type 0} (f g : A → ℕ) → ((x : A) → f x ≡ g x) → (x : OrGap A) → known_part f x ≡ known_part g x
part_same f g h (element a) = h a
part_same f g h (gap n) = refl

sum_each : (f : OpenPlan → ℕ) (g : OpenPlan → List OpenPlan) (ks : List PlanOrGap) →
    sum_by (known_part f) (each_turned g ks) ≡ sum_by (known_part (λ p. sum_by f (g p))) ks
sum_each f g ks =
    sum_placed f (λ p. map element (g p)) ks
    ∙ sum_same (known_part (λ p. sum_by (known_part f) (map element (g p)))) (known_part (λ p. sum_by f (g p)))
    (part_same (λ p. sum_by (known_part f) (map element (g p))) (λ p. sum_by f (g p)) (λ p. part_elements f (g p))) ks

-- what counts of known plans is no more than what counts of all, however they count
abbrev IsNoMore : List PlanOrGap → List OpenPlan → Type 0
IsNoMore ks ps = (f : OpenPlan → ℕ) → sum_by (known_part f) ks ≤ sum_by f ps

turned_no_more : (g : OpenPlan → OpenPlan) (ks : List PlanOrGap) (ps : List OpenPlan) → IsNoMore ks ps →
    IsNoMore (map (turned g) ks) (map g ps)
turned_no_more g ks ps h f =
    let a = sum_turned f g ks in
    let b = sum_map f g ps in
    let c = h (λ p. f (g p)) in
    omega (arith, a, b, c)

each_no_more : (g : OpenPlan → List OpenPlan) (ks : List PlanOrGap) (ps : List OpenPlan) → IsNoMore ks ps →
    IsNoMore (each_turned g ks) (flat_map g ps)
each_no_more g ks ps h f =
    let a = sum_each f g ks in
    let b = sum_flat f g ps in
    let c = h (λ p. sum_by f (g p)) in
    omega (arith, a, b, c)

joined_no_more : (ks ls : List PlanOrGap) (ps qs : List OpenPlan) → IsNoMore ks ps → IsNoMore ls qs → IsNoMore (ks ++ ls) (ps ++ qs)
joined_no_more ks ls ps qs h k f =
    let a = sum_by-append (known_part f) ks ls in
    let b = sum_by-append f ps qs in
    let c = h f in
    let d = k f in
    omega (arith, a, b, c, d)

module _ (theory : Theory) where
  partners_no_more : (gates : Synchronised) (ls : List PlanOrGap) (qs : List OpenPlan) → IsNoMore ls qs → (p : OpenPlan) →
      IsNoMore (partners theory gates ls p) (flat_map (plans_joint theory gates p) qs)
  partners_no_more gates ls qs h p f = by_test (is_joint gates p.kind)
    where
      by_test : (b : Bool) →
          sum_by (known_part f) (if b then each_turned (plans_joint theory gates p) ls else []) ≤
          sum_by f (flat_map (plans_joint theory gates p) qs)
      by_test true = each_no_more (plans_joint theory gates p) ls qs h f
      by_test false = omega arith

  together_no_more : (gates : Synchronised) (ks ls : List PlanOrGap) (ps qs : List OpenPlan) → IsNoMore ks ps → IsNoMore ls qs →
      IsNoMore (flat_map (in_its_place (partners theory gates ls)) ks) (flat_map (λ p. flat_map (plans_joint theory gates p) qs) ps)
  together_no_more gates ks ls ps qs h k f =
      let a = sum_placed f (partners theory gates ls) ks in
      let b = h (λ p. sum_by (known_part f) (partners theory gates ls p)) in
      let c = sum_by-le-sum_by (λ p. sum_by (known_part f) (partners theory gates ls p)) (λ p. sum_by f (flat_map (plans_joint theory gates p) qs))
      ps (λ p. partners_no_more gates ls qs k p f) in
      let d = sum_flat f (λ p. flat_map (plans_joint theory gates p) qs) ps in
      omega (arith, a, b, c, d)

  two_no_more : (o : Binary) (ks ls : List PlanOrGap) (ps qs : List OpenPlan) → IsNoMore ks ps → IsNoMore ls qs →
      IsNoMore (over_two theory o ks ls) (all_over_two theory o ps qs)
  two_no_more choosing ks ls ps qs h k =
      joined_no_more (map (turned (under_row Chl)) ks) (map (turned (under_row Chr)) ls) (map (under_row Chl) ps) (map (under_row Chr) qs)
      (turned_no_more (under_row Chl) ks ps h) (turned_no_more (under_row Chr) ls qs k)
  two_no_more (beside gates) ks ls ps qs h k =
      let lefts = each_turned (plans_alone gates Parl) ks in
      let rights = each_turned (plans_alone gates Parr) ls in
      let boths = flat_map (in_its_place (partners theory gates ls)) ks in
      let all_lefts = flat_map (plans_alone gates Parl) ps in
      let all_rights = flat_map (plans_alone gates Parr) qs in
      let all_boths = flat_map (λ p. flat_map (plans_joint theory gates p) qs) ps in
      joined_no_more lefts (rights ++ boths) all_lefts (all_rights ++ all_boths) (each_no_more (plans_alone gates Parl) ks ps h)
      (joined_no_more rights boths all_rights all_boths (each_no_more (plans_alone gates Parr) ls qs k)
      (together_no_more gates ks ls ps qs h k))
  two_no_more disabling ks ls ps qs h k =
      joined_no_more (map (turned plan_by_disabling) ks) (map (turned (under_row Distake)) ls) (map plan_by_disabling ps)
      (map (under_row Distake) qs)
      (turned_no_more plan_by_disabling ks ps h) (turned_no_more (under_row Distake) ls qs k)

  pub known_no_more : (own : Source → List OpenPlan) (t : Shape) → (f : OpenPlan → ℕ) →
      sum_by (known_part f) (known_plans theory t) ≤ sum_by f (all_plans theory own t)
  known_no_more own (leaf n) f = by_work n.work
    where
      by_work : (o : Option Work) → sum_by (known_part f) (plans_at n.generation o) ≤ sum_by f (plans_or (own n.source) o)
      by_work None = omega arith
      by_work (Some work) = let a = part_elements f work.plans in omega (arith, a)
  known_no_more own ended f = omega arith
  known_no_more own (over o x) f = turned_no_more (over_one o) (known_plans theory x) (all_plans theory own x) (known_no_more own x) f
  known_no_more own (between o x y) f =
      two_no_more o (known_plans theory x) (known_plans theory y) (all_plans theory own x) (all_plans theory own y) (known_no_more own x)
      (known_no_more own y) f
