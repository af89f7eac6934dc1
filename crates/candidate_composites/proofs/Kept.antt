-- What is made of nodes' composites whose actions are sought has all that is sought.
use Rattle.std.proofs.Common.{ℕ, ◌≡◌, ◌++◌, ◌&&◌, ◌||◌, ◌∙◌, List, [], ◌∷◌, map, filter, flat_map, refl, sym, ap, Bool, true, false, cond, if◌then◌else◌}
use Rattle.std.proofs.Common.{Option, Some, None}
use Rattle.std.proofs.lemmas.Bool.{or_parts}
use Rattle.std.proofs.lemmas.List.Concat.{flat_map-append}
use Rattle.spec_core.specs.Theories.{Theory}
use Rattle.spec_core.specs.Code.{Synchronised}
use Rattle.rule_model.specs.Actions.{Kind, inside}
use Rattle.symbolic_rules.specs.MayDerive.{renamed_kind}
use Rattle.decision_trees.specs.Gaps.{element, gap}
use Rattle.symbolic_composites.specs.Kinds.{is_alone, is_joint, is_hidden, is_end, same_kind}
use Rattle.symbolic_composites.proofs.Tests.{same_kind_so}
use Rattle.symbolic_plans.specs.declared.scheme.Row.{Row}
use Rattle.symbolic_plans.specs.declared.scheme.Row.TheVariants.{Chl, Chr, Parl, Parr, Distake, Disend, Disstep}
use Rattle.symbolic_plans.specs.OpenPlans.{OpenPlan, under_row, plans_alone, plans_joint, plan_by_disabling}
use Rattle.candidate_laws.specs.Sought.{Sought, every_kind, these_kinds, is_one_kind, is_sought, seeks_some, under_one, by_itself, with_another}
use Rattle.candidate_laws.specs.Sought.{Step, as_another, kind_above, is_one_above, becomes_one, sought_at, sought_below}
use Rattle.candidate_laws.proofs.Sought.{below_is_above, kinds_same}
use Rattle.node_trees.specs.Rests.{Work}
use Rattle.node_trees.specs.Shapes.{Shape, leaf, ended, over, between, Unary, hidden, relabelled, enabled, Binary, choosing, beside, disabling}
use Rattle.candidate_composites.specs.Known.{PlanOrGap, PlacedPlan, made, awaited, plan_or_gap, plans_sought, over_one}
use Rattle.candidate_composites.specs.Known.{stepped, turned_there, placed_over_one}
use Rattle.candidate_composites.specs.Known.{placed_alone, placed_at, placed_partners, placed_over_two, placed_plans, sought_plans}
use Rattle.candidate_composites.specs.Joining.{Joins, free, is_offered, lets, right_of}
use Rattle.candidate_composites.specs.Contexts.{some_joint}
use Rattle.candidate_composites.specs.Kept.{is_kept, keeps, kept_at, kept_over_two, kept_plans, listed_for, meeting, node_waits, offering}
use Rattle.candidate_composites.specs.Kept.{prunes, some_waits, staying}
use Rattle.candidate_composites.specs.declared.listed.Listed.{Listed}
use Rattle.candidate_composites.specs.declared.listed.Listed.TheVariants.{All, Pruned, Expanded}
use Rattle.candidate_composites.proofs.Within.{IsWithin, kept_sifted, where_sifted}
use Rattle.candidate_composites.proofs.Those.{sift, fill, sift_stepped, sift_turned, as_stepped, kind_of_either, same_either}
use Rattle.candidate_composites.proofs.Those.{one_over, one_alone}
use Rattle.candidate_composites.proofs.Those.{partners_sought, all_partners}
use Rattle.candidate_composites.proofs.Whole.{AllMade, all_plans, all_over, all_kept_between, all_made}

-- each kind that is sought passes the test
abbrev Covers : (Kind → Bool) → Sought → Type 0
Covers f v = (k : Kind) → is_sought v k ≡ true → f k ≡ true

-- with the gaps: where something is left out it is said what is sought
abbrev Allowed : Listed → Sought → Type 0
Allowed All v = Unit {0}
Allowed Pruned every_kind = ⊥
Allowed Pruned (these_kinds ks) = Unit {0}
Allowed Expanded v = ⊥

allowed_below : (l : Listed) (step : Step) (v : Sought) → Allowed l v → Allowed l (sought_below step v)
allowed_below All step v a = tt
allowed_below Pruned step every_kind a = absurd a
allowed_below Pruned step (these_kinds ks) a = tt
allowed_below Expanded step v a = absurd a

either_still : (a b c : Bool) → a || b ≡ true → (b ≡ true → c ≡ true) → a || c ≡ true
either_still true b c e h = refl
either_still false b c e h = h e

pub either_so : (a b : Bool) → b ≡ true → a || b ≡ true
either_so true b e = refl
either_so false b e = e

one_of_all : (k : Kind) (p : Kind → Bool) (ks : List Kind) → is_one_kind k (filter p ks) ≡ true → is_one_kind k ks ≡ true
one_of_all k p [] e = e
one_of_all k p (j ∷ ks) e = by_test (p j) e (one_of_all k p ks)
  where
    by_test : (b : Bool) → is_one_kind k (cond b (j ∷ filter p ks) (filter p ks)) ≡ true →
        (is_one_kind k (filter p ks) ≡ true → is_one_kind k ks ≡ true) → same_kind k j || is_one_kind k ks ≡ true
    by_test true f h = either_still (same_kind k j) (is_one_kind k (filter p ks)) (is_one_kind k ks) f h
    by_test false f h = either_so (same_kind k j) (is_one_kind k ks) (h f)

one_of_none_more : (k : Kind) (ks : List Kind) → is_one_kind k (ks ++ []) ≡ is_one_kind k ks
one_of_none_more k [] = refl
one_of_none_more k (j ∷ ks) = ap (λ z. same_kind k j || z) (one_of_none_more k ks)

one_passes : (k : Kind) (p : Kind → Bool) (ks : List Kind) → is_one_kind k (filter p ks) ≡ true → p k ≡ true
one_passes k p [] e = let no : false ≡ true = e in absurd cc
one_passes k p (j ∷ ks) e = by_test (p j) refl e (one_passes k p ks)
  where
    by_kind : (b : Bool) → same_kind k j ≡ b → p j ≡ true → b || is_one_kind k (filter p ks) ≡ true →
        (is_one_kind k (filter p ks) ≡ true → p k ≡ true) → p k ≡ true
    by_kind true f g i h = ap p (kinds_same k j f) ∙ g
    by_kind false f g i h = h i

    by_test : (b : Bool) → p j ≡ b → is_one_kind k (cond b (j ∷ filter p ks) (filter p ks)) ≡ true →
        (is_one_kind k (filter p ks) ≡ true → p k ≡ true) → p k ≡ true
    by_test true f g h = by_kind (same_kind k j) refl f g h
    by_test false f g h = h g

-- what is sought at a side of a parallel composition is sought at the whole
covers_itself : (gates : Synchronised) (f : Kind → Bool) (v : Sought) → Covers f v → Covers f (sought_below (by_itself gates) v)
covers_itself gates f every_kind h k e = h k refl
covers_itself gates f (these_kinds ks) h k e =
    h k (sym (one_of_none_more k ks) ∙ one_of_all k (becomes_one (by_itself gates) ks) (ks ++ []) e)

covers_with : (gates : Synchronised) (f : Kind → Bool) (v : Sought) → Covers f v → Covers f (sought_below (with_another gates) v)
covers_with gates f every_kind h k e = h k refl
covers_with gates f (these_kinds ks) h k e =
    h k (sym (one_of_none_more k ks) ∙ one_of_all k (becomes_one (with_another gates) ks) (ks ++ []) e)

covers_as : (j : Kind) (f : Kind → Bool) (v : Sought) → Covers f v → Covers f (sought_below (as_another j) v)
covers_as j f every_kind h k e = h k refl
covers_as j f (these_kinds ks) h k e =
    h k (sym (one_of_none_more k ks) ∙ one_of_all k (becomes_one (as_another j) ks) (ks ++ []) e)

and_second : (a b : Bool) → a && b ≡ true → b ≡ true
and_second true b e = e
and_second false b e = let no : false ≡ true = e in absurd cc

both_so : (a b : Bool) → a ≡ true → b ≡ true → a && b ≡ true
both_so true b e f = f
both_so false b e f = let no : false ≡ true = e in absurd cc

pub first_so : (a b : Bool) → a ≡ true → a || b ≡ true
first_so true b e = refl
first_so false b e = let no : false ≡ true = e in absurd cc

-- what is sought beside the left side is of the kind of its action
is_same : (j k : Kind) (ks : List Kind) → is_sought (sought_below (as_another j) (these_kinds ks)) k ≡ true → j ≡ k
is_same j k ks e = kinds_same j k (by_test (same_kind j k) (one_passes k (becomes_one (as_another j) ks) (ks ++ []) e))
  where
    by_test : (b : Bool) → is_one_above ks (if b then Some k else None) ≡ true → b ≡ true
    by_test true f = refl
    by_test false f = f

-- what is sought of a side by itself is what it does alone
is_itself : (gates : Synchronised) (k : Kind) (ks : List Kind) → is_sought (sought_below (by_itself gates) (these_kinds ks)) k ≡ true →
    is_alone gates k ≡ true
is_itself gates k ks e = by_test (is_alone gates k) (one_passes k (becomes_one (by_itself gates) ks) (ks ++ []) e)
  where
    by_test : (b : Bool) → is_one_above ks (if b then Some k else None) ≡ true → b ≡ true
    by_test true f = refl
    by_test false f = f

-- the right side of a parallel composition, of what it does alone and of what it does with an action that the left side may do
right_alone : (l : Listed) (gates : Synchronised) (ps : List PlacedPlan) (u : Sought) (c : Joins) (v : Sought) → Allowed l v →
    Covers (is_kept u c) v → Covers (is_kept u (right_of (prunes l) (beside gates) ps c)) (sought_below (by_itself gates) v)
right_alone All gates ps u c v a h k e = covers_itself gates (is_kept u c) v h k e
right_alone Pruned gates ps u c every_kind a h k e = absurd a
right_alone Pruned gates ps u c (these_kinds ks) a h k e =
    both_so (is_alone gates k || is_offered k ps) (is_sought u k) (first_so (is_alone gates k) (is_offered k ps) (is_itself gates k ks e))
    (and_second (lets c k) (is_sought u k) (covers_itself gates (is_kept u c) (these_kinds ks) h k e))
right_alone Expanded gates ps u c v a h k e = absurd a

right_with : (l : Listed) (gates : Synchronised) (ps : List PlacedPlan) (u : Sought) (c : Joins) (v : Sought) (j : Kind) →
    Allowed l v → Covers (is_kept u c) v → is_offered j ps ≡ true →
    Covers (is_kept u (right_of (prunes l) (beside gates) ps c)) (sought_below (as_another j) v)
right_with All gates ps u c v j a h i k e = covers_as j (is_kept u c) v h k e
right_with Pruned gates ps u c every_kind j a h i k e = absurd a
right_with Pruned gates ps u c (these_kinds ks) j a h i k e =
    both_so (is_alone gates k || is_offered k ps) (is_sought u k)
    (either_so (is_alone gates k) (is_offered k ps) (ap (λ z. is_offered z ps) (sym (is_same j k ks e)) ∙ i))
    (and_second (lets c k) (is_sought u k) (covers_as j (is_kept u c) (these_kinds ks) h k e))
right_with Expanded gates ps u c v j a h i k e = absurd a

kept_within : (u : Sought) (c : Joins) (v : Sought) → Covers (is_kept u c) v → IsWithin v u
kept_within u c v h k e = and_second (lets c k) (is_sought u k) (h k e)

-- What the left side says of the right one, where they meet.

joint_offered : (gates : Synchronised) (k : Kind) (ps : List PlacedPlan) → is_joint gates k ≡ true → is_offered k ps ≡ true →
    some_joint gates ps ≡ true
joint_offered gates k [] j e = let no : false ≡ true = e in absurd cc
joint_offered gates k (awaited g steps ∷ ps) j e = refl
joint_offered gates k (made p ∷ ps) j e = by_kind (same_kind p.kind k) refl e (joint_offered gates k ps j)
  where
    by_kind : (b : Bool) → same_kind p.kind k ≡ b → b || is_offered k ps ≡ true → (is_offered k ps ≡ true → some_joint gates ps ≡ true) →
        is_joint gates p.kind || some_joint gates ps ≡ true
    by_kind true s f h = first_so (is_joint gates p.kind) (some_joint gates ps) (ap (is_joint gates) (kinds_same p.kind k s) ∙ j)
    by_kind false s f h = either_so (is_joint gates p.kind) (some_joint gates ps) (h f)

offered_of_all : (u : Sought) (k : Kind) (ps : List PlacedPlan) → is_offered k (filter (keeps u) ps) ≡ true → is_offered k ps ≡ true
offered_of_all u k [] e = e
offered_of_all u k (made p ∷ ps) e =
    either_still (same_kind p.kind k) (is_offered k (filter (keeps u) ps)) (is_offered k ps) e (offered_of_all u k ps)
offered_of_all u k (awaited g steps ∷ ps) e = refl

meeting_is_offered : (gates : Synchronised) (u : Sought) (ps : List PlacedPlan) (k : Kind) → is_joint gates k ≡ true →
    is_offered k (meeting gates u ps) ≡ true → is_offered k (offering (beside gates) u ps) ≡ true
meeting_is_offered gates u ps k j e =
    ap (λ (b : Bool). is_offered k (if b then ps else [])) (joint_offered gates k (meeting gates u ps) j e)
    ∙ by_test (seeks_some (sought_below (with_another gates) u)) e
  where
    by_test : (b : Bool) → is_offered k (if b then filter (keeps (sought_below (with_another gates) u)) ps else []) ≡ true →
        is_offered k ps ≡ true
    by_test true f = offered_of_all (sought_below (with_another gates) u) k ps f
    by_test false f = let no : false ≡ true = f in absurd cc

-- the kind above an operator over one part
abbrev above : Unary → Kind → Kind
above (hidden gates) k = if is_hidden gates k then inside else k
above (relabelled pairs) k = renamed_kind pairs k
above (enabled xs right values) k = if is_end k then inside else k

is_above : (o : Unary) (k : Kind) → kind_above (under_one o) k ≡ Some (above o k)
is_above (hidden gates) k = refl
is_above (relabelled pairs) k = refl
is_above (enabled xs right values) k = refl

covers_below : (o : Unary) (u : Sought) (c : Joins) (v : Sought) → Covers (is_kept u c) v →
    Covers (is_kept (sought_below (under_one o) u) free) (sought_below (under_one o) v)
covers_below o u c v h k e =
    below_is_above (under_one o) u k (above o k) (is_above o k)
    ∙ and_second (lets c (above o k)) (is_sought u (above o k))
    (h (above o k) (sym (below_is_above (under_one o) v k (above o k) (is_above o k)) ∙ e))

-- of the plans of a node
kept_sought : (f : Kind → Bool) (v : Sought) → Covers f v → (ps : List OpenPlan) →
    sift v (map made (filter (λ (p : OpenPlan). f p.kind) ps)) ≡ sift v (map made ps)
kept_sought f v h [] = refl
kept_sought f v h (p ∷ ps) = by_test (f p.kind) (h p.kind) (kept_sought f v h ps)
  where
    without : (b : Bool) → (b ≡ true → false ≡ true) → sift v (map made ps) ≡ (if b then element p ∷ [] else []) ++ sift v (map made ps)
    without true i = let no : false ≡ true = i refl in absurd cc
    without false i = refl

    by_test : (b : Bool) → (is_sought v p.kind ≡ true → b ≡ true) →
        sift v (map made (filter (λ (q : OpenPlan). f q.kind) ps)) ≡ sift v (map made ps) →
        sift v (map made (cond b (p ∷ filter (λ (q : OpenPlan). f q.kind) ps) (filter (λ (q : OpenPlan). f q.kind) ps))) ≡
        (if is_sought v p.kind then element p ∷ [] else []) ++ sift v (map made ps)
    by_test true i e = ap (λ z. (if is_sought v p.kind then element p ∷ [] else []) ++ z) e
    by_test false i e = e ∙ without (is_sought v p.kind) i

at_node : (l : Listed) (u : Sought) (c : Joins) (v : Sought) → Allowed l v → Covers (is_kept u c) v → (g : ℕ) (work : Option Work) →
    sift v (kept_at l u c g work) ≡ sift v (placed_at g work)
at_node All u c v a h g None = refl
at_node Pruned u c v a h g None = refl
at_node Expanded u c v a h g None = absurd a
at_node l u c v a h g (Some work) = kept_sought (is_kept u c) v h work.plans

-- two fillings that agree at what may be of these kinds
same_fill : (f g : OpenPlan → List PlanOrGap) (w : Sought) (ps all : List PlacedPlan) →
    ((p : OpenPlan) → is_offered p.kind all ≡ true → f p ≡ g p) →
    ((k : Kind) → is_offered k ps ≡ true → is_offered k all ≡ true) → fill f (sift w ps) ≡ fill g (sift w ps)
same_fill f g w [] all h i = refl
same_fill f g w (made p ∷ ps) all h i =
    by_test (is_sought w p.kind) (same_fill f g w ps all h (λ k e. i k (either_so (same_kind p.kind k) (is_offered k ps) e)))
  where
    here : f p ≡ g p
    here = h p (i p.kind (first_so (same_kind p.kind p.kind) (is_offered p.kind ps) (same_kind_so p.kind p.kind refl)))

    by_test : (b : Bool) → fill f (sift w ps) ≡ fill g (sift w ps) →
        fill f ((if b then element p ∷ [] else []) ++ sift w ps) ≡ fill g ((if b then element p ∷ [] else []) ++ sift w ps)
    by_test true e = ap (λ z. z ++ fill f (sift w ps)) here ∙ ap (λ z. g p ++ z) e
    by_test false e = e
same_fill f g w (awaited n steps ∷ ps) all h i =
    by_test (seeks_some (sought_at steps w)) (same_fill f g w ps all h (λ k e. i k refl))
  where
    by_test : (b : Bool) → fill f (sift w ps) ≡ fill g (sift w ps) →
        fill f ((if b then gap n ∷ [] else []) ++ sift w ps) ≡ fill g ((if b then gap n ∷ [] else []) ++ sift w ps)
    by_test true e = ap (λ z. gap n ∷ z) e
    by_test false e = e

join : (v : Sought) (ps qs rs ss : List PlacedPlan) → sift v ps ≡ sift v rs → sift v qs ≡ sift v ss → sift v (ps ++ qs) ≡ sift v (rs ++ ss)
join v ps qs rs ss e f =
    flat_map-append (plans_sought v) ps qs ∙ ap (λ z. z ++ sift v qs) e ∙ ap (λ z. sift v rs ++ z) f ∙ sym (flat_map-append (plans_sought v) rs ss)

pub part_over : (o : Unary) (v : Sought) (ps : List PlacedPlan) →
    sift v (map (placed_over_one o) ps) ≡ fill (λ p. element (over_one o p) ∷ []) (sift (sought_below (under_one o) v) ps)
part_over o v ps =
    ap (sift v) (as_stepped o ps)
    ∙ sift_stepped (under_one o) v (λ p. made (over_one o p) ∷ []) (λ p. element (over_one o p) ∷ []) (one_over o v) ps

turns : (v : Sought) (f : OpenPlan → OpenPlan) → ((p : OpenPlan) → (f p).kind ≡ p.kind) → (ps rs : List PlacedPlan) →
    sift v ps ≡ sift v rs → sift v (map (turned_there f) ps) ≡ sift v (map (turned_there f) rs)
turns v f same ps rs e = sift_turned v f same ps ∙ ap (fill (λ p. element (f p) ∷ [])) e ∙ sym (sift_turned v f same rs)

pub alone_sifted : (gates : Synchronised) (row : Row) (v : Sought) (ps : List PlacedPlan) →
    sift v (placed_alone gates row ps) ≡ fill (λ p. map element (plans_alone gates row p)) (sift (sought_below (by_itself gates) v) ps)
alone_sifted gates row v ps =
    sift_stepped (by_itself gates) v (λ p. map made (plans_alone gates row p)) (λ p. map element (plans_alone gates row p))
    (one_alone gates row v) ps

alones : (gates : Synchronised) (row : Row) (v : Sought) (ps rs : List PlacedPlan) →
    sift (sought_below (by_itself gates) v) ps ≡ sift (sought_below (by_itself gates) v) rs →
    sift v (placed_alone gates row ps) ≡ sift v (placed_alone gates row rs)
alones gates row v ps rs e =
    alone_sifted gates row v ps ∙ ap (fill (λ p. map element (plans_alone gates row p))) e ∙ sym (alone_sifted gates row v rs)

-- of plans without gaps, of which each kind is sought, all are sought

abbrev kinds_in : List PlacedPlan → List Kind
kinds_in [] = []
kinds_in (made p ∷ ps) = p.kind ∷ kinds_in ps
kinds_in (awaited g steps ∷ ps) = kinds_in ps

one_of_first : (k : Kind) (js ks : List Kind) → is_one_kind k js ≡ true → is_one_kind k (js ++ ks) ≡ true
one_of_first k [] ks e = let no : false ≡ true = e in absurd cc
one_of_first k (j ∷ js) ks e = either_still (same_kind k j) (is_one_kind k js) (is_one_kind k (js ++ ks)) e (one_of_first k js ks)

one_of_second : (k : Kind) (js ks : List Kind) → is_one_kind k ks ≡ true → is_one_kind k (js ++ ks) ≡ true
one_of_second k [] ks e = e
one_of_second k (j ∷ js) ks e = either_so (same_kind k j) (is_one_kind k (js ++ ks)) (one_of_second k js ks e)

all_sifted : (ps : List PlacedPlan) (ks : List Kind) → AllMade ps →
    ((k : Kind) → is_one_kind k (kinds_in ps) ≡ true → is_one_kind k ks ≡ true) → sift (these_kinds ks) ps ≡ map plan_or_gap ps
all_sifted [] ks a h = refl
all_sifted (made p ∷ ps) ks a h =
    by_test (is_one_kind p.kind ks)
    (h p.kind (first_so (same_kind p.kind p.kind) (is_one_kind p.kind (kinds_in ps)) (same_kind_so p.kind p.kind refl)))
    (all_sifted ps ks a (λ k e. h k (either_so (same_kind k p.kind) (is_one_kind k (kinds_in ps)) e)))
  where
    by_test : (b : Bool) → b ≡ true → sift (these_kinds ks) ps ≡ map plan_or_gap ps →
        (if b then element p ∷ [] else []) ++ sift (these_kinds ks) ps ≡ element p ∷ map plan_or_gap ps
    by_test true e f = ap (λ z. element p ∷ z) f
    by_test false e f = let no : false ≡ true = e in absurd cc
all_sifted (awaited g steps ∷ ps) ks a h = absurd a

abbrev placed_again : PlanOrGap → PlacedPlan
placed_again (element p) = made p
placed_again (gap g) = awaited g []

back : (ps : List PlacedPlan) → AllMade ps → ps ≡ map placed_again (map plan_or_gap ps)
back [] a = refl
back (made p ∷ ps) a = ap (λ z. made p ∷ z) (back ps a)
back (awaited g steps ∷ ps) a = absurd a

module _ (theory : Theory) where
  -- what both sides do together, where beside each plan of the left side these are looked at of the right one
  abbrev pub pairs : Synchronised → (OpenPlan → List PlacedPlan) → List PlacedPlan → List PlacedPlan
  pairs gates beside_it ps = flat_map (stepped (with_another gates) (λ p. placed_partners theory gates (beside_it p) p)) ps

  pub both_sifted : (gates : Synchronised) (v : Sought) (beside_it : OpenPlan → List PlacedPlan) (ps : List PlacedPlan) →
      sift v (pairs gates beside_it ps) ≡
      fill (λ p. partners_sought theory gates v p (beside_it p)) (sift (sought_below (with_another gates) v) ps)
  both_sifted gates v beside_it ps =
      sift_stepped (with_another gates) v (λ p. placed_partners theory gates (beside_it p) p)
      (λ p. partners_sought theory gates v p (beside_it p)) (λ p. all_partners theory gates v p (beside_it p)) ps

  boths : (gates : Synchronised) (v : Sought) (f g : OpenPlan → List PlacedPlan) (ps rs : List PlacedPlan) →
      sift (sought_below (with_another gates) v) ps ≡ sift (sought_below (with_another gates) v) rs →
      ((p : OpenPlan) → is_joint gates p.kind ≡ true → is_offered p.kind ps ≡ true →
      sift (sought_below (as_another p.kind) v) (f p) ≡ sift (sought_below (as_another p.kind) v) (g p)) →
      sift v (pairs gates f ps) ≡ sift v (pairs gates g rs)
  boths gates v f g ps rs e h =
      both_sifted gates v f ps
      ∙ same_fill (λ p. partners_sought theory gates v p (f p)) (λ p. partners_sought theory gates v p (g p))
      (sought_below (with_another gates) v) ps ps same (λ k i. i)
      ∙ ap (fill (λ p. partners_sought theory gates v p (g p))) e
      ∙ sym (both_sifted gates v g rs)
    where
      same : (p : OpenPlan) → is_offered p.kind ps ≡ true → partners_sought theory gates v p (f p) ≡ partners_sought theory gates v p (g p)
      same p i = by_joint (is_joint gates p.kind) refl
        where
          those : List PlanOrGap → List PlanOrGap
          those l = fill (λ q. map element (plans_joint theory gates p q)) l

          by_joint : (b : Bool) → is_joint gates p.kind ≡ b →
              (if b then those (sift (sought_below (as_another p.kind) v) (f p)) else []) ≡
              (if b then those (sift (sought_below (as_another p.kind) v) (g p)) else [])
          by_joint true d = ap those (h p d i)
          by_joint false d = refl

  two_parts : (l : Listed) (o : Binary) (u : Sought) (c : Joins) (v : Sought) → Allowed l v → Covers (is_kept u c) v →
      (ps qs rs ss : List PlacedPlan) →
      ((w : Sought) → Allowed l w → Covers (is_kept u c) w → sift w ps ≡ sift w rs) →
      ((w : Sought) → Allowed l w → Covers (is_kept u (right_of (prunes l) o (offering o u ps) c)) w → sift w qs ≡ sift w ss) →
      sift v (kept_over_two theory o u ps qs) ≡ sift v (placed_over_two theory o rs ss)
  two_parts l choosing u c v a h ps qs rs ss e f =
      join v (map (turned_there (under_row Chl)) ps) (map (turned_there (under_row Chr)) qs) (map (turned_there (under_row Chl)) rs)
      (map (turned_there (under_row Chr)) ss) (turns v (under_row Chl) (λ p. refl) ps rs (e v a h))
      (turns v (under_row Chr) (λ p. refl) qs ss (f v a h))
  two_parts l (beside gates) u c v a h ps qs rs ss e f =
      let lefts = staying gates u ps in
      let ms = meeting gates u ps in
      let those = offering (beside gates) u ps in
      let rights = placed_alone gates Parr qs in
      let others = placed_alone gates Parr ss in
      let beside_it = λ (p : OpenPlan). filter (keeps (sought_below (as_another p.kind) u)) qs in
      let first = pairs gates beside_it ms in
      let second = pairs gates (λ p. ss) rs in
      let below = allowed_below l (by_itself gates) v a in
      let within = kept_within u c v h in
      join v (placed_alone gates Parl lefts) (rights ++ first) (placed_alone gates Parl rs) (others ++ second)
      (alones gates Parl v lefts rs
      (where_sifted (by_itself gates) v u within ps ∙ e (sought_below (by_itself gates) v) below (covers_itself gates (is_kept u c) v h)))
      (join v rights first others second
      (alones gates Parr v qs ss (f (sought_below (by_itself gates) v) below (right_alone l gates those u c v a h)))
      (boths gates v beside_it (λ p. ss) ms rs
      (where_sifted (with_another gates) v u within ps
      ∙ e (sought_below (with_another gates) v) (allowed_below l (with_another gates) v a) (covers_with gates (is_kept u c) v h))
      (λ p d i. kept_sifted (as_another p.kind) v u within qs
      ∙ f (sought_below (as_another p.kind) v) (allowed_below l (as_another p.kind) v a)
      (right_with l gates those u c v p.kind a h (meeting_is_offered gates u ps p.kind d i)))))
  two_parts l disabling u c v a h ps qs rs ss e f =
      join v (map (turned_there plan_by_disabling) ps) (map (turned_there (under_row Distake)) qs) (map (turned_there plan_by_disabling) rs)
      (map (turned_there (under_row Distake)) ss)
      (turns v plan_by_disabling
      (λ p. kind_of_either (is_end p.kind) (under_row Disend p) (under_row Disstep p) ∙ same_either (is_end p.kind) p.kind) ps rs (e v a h))
      (turns v (under_row Distake) (λ p. refl) qs ss (f v a h))

  kept_are : (l : Listed) (t : Shape) (u : Sought) (c : Joins) (v : Sought) → Allowed l v → Covers (is_kept u c) v →
      sift v (kept_plans theory l t u c) ≡ sift v (placed_plans theory t)
  kept_are l (leaf n) u c v a h = at_node l u c v a h n.generation n.work
  kept_are l ended u c v a h = refl
  kept_are l (over o x) u c v a h =
      part_over o v (kept_plans theory l x (sought_below (under_one o) u) free)
      ∙ ap (fill (λ p. element (over_one o p) ∷ []))
      (kept_are l x (sought_below (under_one o) u) free (sought_below (under_one o) v) (allowed_below l (under_one o) v a)
      (covers_below o u c v h))
      ∙ sym (part_over o v (placed_plans theory x))
  kept_are l (between o x y) u c v a h =
      let ps = kept_plans theory l x u c in
      let above = right_of (prunes l) o (offering o u ps) c in
      two_parts l o u c v a h ps (kept_plans theory l y u above) (placed_plans theory x) (placed_plans theory y)
      (λ w b i. kept_are l x u c w b i) (λ w b i. kept_are l y u above w b i)

  -- where no node waits, and whatever there is is sought, all are made

  kept_made : (v : Sought) (c : Joins) (g : ℕ) (work : Option Work) → node_waits work ≡ false → AllMade (kept_at Pruned v c g work)
  kept_made v c g None e = let no : true ≡ false = e in absurd cc
  kept_made v c g (Some work) e = all_plans (filter (λ (p : OpenPlan). is_kept v c p.kind) work.plans)

  all_kept_made : (t : Shape) (v : Sought) (c : Joins) → some_waits t ≡ false → AllMade (kept_plans theory Pruned t v c)
  all_kept_made (leaf n) v c e = kept_made v c n.generation n.work e
  all_kept_made ended v c e = tt
  all_kept_made (over o x) v c e =
      all_over o (kept_plans theory Pruned x (sought_below (under_one o) v) free) (all_kept_made x (sought_below (under_one o) v) free e)
  all_kept_made (between o x y) v c e =
      let n = or_parts (some_waits x) (some_waits y) e in
      let ps = kept_plans theory Pruned x v c in
      let above = right_of (prunes Pruned) o (offering o v ps) c in
      all_kept_between theory o v ps (kept_plans theory Pruned y v above) (all_kept_made x v c n.0) (all_kept_made y v above n.1)

  pub pruned_is_kept : (t : Shape) → some_waits t ≡ false → kept_plans theory Pruned t every_kind free ≡ placed_plans theory t
  pruned_is_kept t e =
      let ps = kept_plans theory Pruned t every_kind free in
      let qs = placed_plans theory t in
      let ks = kinds_in ps ++ kinds_in qs in
      let a = all_kept_made t every_kind free e in
      let b = all_made theory t e in
      back ps a
      ∙ ap (map placed_again)
      (sym (all_sifted ps ks a (λ k i. one_of_first k (kinds_in ps) (kinds_in qs) i))
      ∙ kept_are Pruned t every_kind free (these_kinds ks) tt (λ k i. refl)
      ∙ all_sifted qs ks b (λ k i. one_of_second k (kinds_in ps) (kinds_in qs) i))
      ∙ sym (back qs b)

  pub kept_are_sought : (t : Shape) (v : Sought) →
      flat_map (plans_sought v) (kept_plans theory (listed_for v t) t v free) ≡ sought_plans theory t v
  kept_are_sought t every_kind = by_waits (some_waits t) refl
    where
      by_waits : (b : Bool) → some_waits t ≡ b →
          sift every_kind (kept_plans theory (if b then All else Pruned) t every_kind free) ≡ sought_plans theory t every_kind
      by_waits true e = kept_are All t every_kind free every_kind tt (λ k i. refl)
      by_waits false e = ap (sift every_kind) (pruned_is_kept t e)
  kept_are_sought t (these_kinds ks) = kept_are Pruned t (these_kinds ks) free (these_kinds ks) tt (λ k i. i)
