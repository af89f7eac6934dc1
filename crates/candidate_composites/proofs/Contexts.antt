-- What the operators above a part make of its plans, one operator after the other.
use Rattle.std.proofs.Common.{◌≡◌, ◌++◌, ◌∙◌, List, [], ◌∷◌, map, filter, flat_map, refl, sym, ap, Bool, true, false}
use Rattle.std.proofs.Common.{if◌then◌else◌, append_assoc}
use Rattle.std.proofs.lemmas.Bool.{or_parts}
use Rattle.std.proofs.lemmas.List.Concat.{flat_map-append}
use Rattle.spec_core.specs.Theories.{Theory}
use Rattle.spec_core.specs.Code.{Synchronised}
use Rattle.symbolic_composites.specs.Kinds.{is_joint}
use Rattle.symbolic_plans.specs.declared.scheme.Row.{Row}
use Rattle.symbolic_plans.specs.declared.scheme.Row.TheVariants.{Chl, Chr, Parl, Parr, Distake}
use Rattle.symbolic_plans.specs.OpenPlans.{under_row, plans_alone, plans_joint, plan_by_disabling}
use Rattle.candidate_laws.specs.Sought.{Sought, sought_below, by_itself, with_another, as_another}
use Rattle.node_trees.specs.Shapes.{Shape, between, Unary, choosing, beside, disabling}
use Rattle.candidate_composites.specs.Known.{PlacedPlan, made, awaited, stepped, turned_there, placed_over_one, placed_alone}
use Rattle.candidate_composites.specs.Known.{placed_over_two}
use Rattle.candidate_composites.specs.Contexts.{Turn, below_row, disabled, alone_by, over_by, turned_by, through, all_through, some_joint}
use Rattle.candidate_composites.specs.Joining.{Joins, right_of}
use Rattle.candidate_composites.specs.Kept.{keeps, kept_beside, kept_partners, kept_plans, meeting, offering, prunes, staying}
use Rattle.candidate_composites.specs.declared.listed.Listed.{Listed}

-- The lowest operator first, and those above it then.

pub rises : (t : Turn) (ts : List Turn) (ps : List PlacedPlan) → all_through (t ∷ ts) ps ≡ all_through ts (flat_map (turned_by t) ps)
rises t ts [] = refl
rises t ts (p ∷ ps) =
    ap (λ z. all_through ts (turned_by t p) ++ z) (rises t ts ps)
    ∙ sym (flat_map-append (through ts) (turned_by t p) (flat_map (turned_by t) ps))

singles : (f : PlacedPlan → PlacedPlan) (g : PlacedPlan → List PlacedPlan) → ((x : PlacedPlan) → g x ≡ f x ∷ []) → (ps : List PlacedPlan) →
    flat_map g ps ≡ map f ps
singles f g e [] = refl
singles f g e (p ∷ ps) = ap (λ z. z ++ flat_map g ps) (e p) ∙ ap (λ z. f p ∷ z) (singles f g e ps)

rises_below : (row : Row) (ts us : List Turn) (ps : List PlacedPlan) → us ≡ below_row row ∷ ts →
    all_through us ps ≡ all_through ts (map (turned_there (under_row row)) ps)
rises_below row ts us ps h =
    ap (λ z. all_through z ps) h
    ∙ rises (below_row row) ts ps
    ∙ ap (all_through ts) (singles (turned_there (under_row row)) (turned_by (below_row row)) (λ x. refl) ps)

rises_disabled : (ts us : List Turn) (ps : List PlacedPlan) → us ≡ disabled ∷ ts →
    all_through us ps ≡ all_through ts (map (turned_there plan_by_disabling) ps)
rises_disabled ts us ps h =
    ap (λ z. all_through z ps) h
    ∙ rises disabled ts ps
    ∙ ap (all_through ts) (singles (turned_there plan_by_disabling) (turned_by disabled) (λ x. refl) ps)

pub rises_over : (o : Unary) (ts : List Turn) (ps : List PlacedPlan) →
    all_through (over_by o ∷ ts) ps ≡ all_through ts (map (placed_over_one o) ps)
rises_over o ts ps = rises (over_by o) ts ps ∙ ap (all_through ts) (singles (placed_over_one o) (turned_by (over_by o)) (λ x. refl) ps)

same_each : (f g : PlacedPlan → List PlacedPlan) → ((x : PlacedPlan) → f x ≡ g x) → (ps : List PlacedPlan) → flat_map f ps ≡ flat_map g ps
same_each f g e [] = refl
same_each f g e (p ∷ ps) = ap (λ z. z ++ flat_map f ps) (e p) ∙ ap (λ z. g p ++ z) (same_each f g e ps)

rises_alone : (gates : Synchronised) (row : Row) (ts us : List Turn) (ps : List PlacedPlan) → us ≡ alone_by gates row ∷ ts →
    all_through us ps ≡ all_through ts (placed_alone gates row ps)
rises_alone gates row ts us ps h =
    ap (λ z. all_through z ps) h
    ∙ rises (alone_by gates row) ts ps
    ∙ ap (all_through ts)
    (same_each (turned_by (alone_by gates row)) (stepped (by_itself gates) (λ p. map made (plans_alone gates row p))) (λ x. refl) ps)

pub rises_whole : (ps : List PlacedPlan) → all_through [] ps ≡ ps
rises_whole [] = refl
rises_whole (p ∷ ps) = ap (λ z. p ∷ z) (rises_whole ps)

-- an operator's parts, one behind the other
pub one_behind : (ts : List Turn) (a b c : List PlacedPlan) (ps qs : List PlacedPlan) → b ≡ a ++ all_through ts ps →
    c ≡ b ++ all_through ts qs → c ≡ a ++ all_through ts (ps ++ qs)
one_behind ts a b c ps qs e f =
    f
    ∙ ap (λ z. z ++ all_through ts qs) e
    ∙ append_assoc a (all_through ts ps) (all_through ts qs)
    ∙ ap (λ z. a ++ z) (sym (flat_map-append (through ts) ps qs))

-- What a left side says of the right one: all, where some of it meets the right side, and else nothing.

module _ (gates : Synchronised) (v : Sought) (ps : List PlacedPlan) where
  pub all_offered : some_joint gates (meeting gates v ps) ≡ true → offering (beside gates) v ps ≡ ps
  all_offered e = ap (λ (b : Bool). if b then ps else []) e

  none_offered : some_joint gates (meeting gates v ps) ≡ false → offering (beside gates) v ps ≡ []
  none_offered e = ap (λ (b : Bool). if b then ps else []) e

module _ (theory : Theory) where
  none_together : (gates : Synchronised) (v : Sought) (ps qs : List PlacedPlan) → some_joint gates ps ≡ false →
      flat_map (stepped (with_another gates) (kept_partners theory gates v qs)) ps ≡ []
  none_together gates v [] qs e = refl
  none_together gates v (awaited g steps ∷ ps) qs e = let no : true ≡ false = e in absurd cc
  none_together gates v (made p ∷ ps) qs e =
      let parts = or_parts (is_joint gates p.kind) (some_joint gates ps) e in
      let kept = filter (keeps (sought_below (as_another p.kind) v)) qs in
      let those = flat_map (stepped (as_another p.kind) (λ q. map made (plans_joint theory gates p q))) kept in
      ap (λ b. (if b then those else []) ++ flat_map (stepped (with_another gates) (kept_partners theory gates v qs)) ps) parts.0
      ∙ none_together gates v ps qs parts.1

  -- what is left then of a parallel composition, above all operators
  pub sides_alone : (l : Listed) (gates : Synchronised) (x y : Shape) (v : Sought) (c : Joins) (ts us vs : List Turn) →
      us ≡ alone_by gates Parl ∷ ts →
      vs ≡ alone_by gates Parr ∷ ts →
      (a b d : List PlacedPlan) →
      some_joint gates (meeting gates v (kept_plans theory l x v c)) ≡ false →
      b ≡ a ++ all_through us (staying gates v (kept_plans theory l x v c)) →
      d ≡ b ++ all_through vs (kept_plans theory l y v (right_of (prunes l) (beside gates) [] c)) →
      d ≡ a ++ all_through ts (kept_plans theory l (between (beside gates) x y) v c)
  sides_alone l gates x y v c ts us vs h k a b d e f g =
      let left = kept_plans theory l x v c in
      let ps = staying gates v left in
      let qs = kept_plans theory l y v (right_of (prunes l) (beside gates) (offering (beside gates) v left) c) in
      let rs = kept_plans theory l y v (right_of (prunes l) (beside gates) [] c) in
      let same : rs ≡ qs =
      ap (λ z. kept_plans theory l y v (right_of (prunes l) (beside gates) z c)) (sym (none_offered gates v left e)) in
      one_behind ts a b d (placed_alone gates Parl ps) (placed_alone gates Parr rs)
      (f ∙ ap (λ z. a ++ z) (rises_alone gates Parl ts us ps h)) (g ∙ ap (λ z. b ++ z) (rises_alone gates Parr ts vs rs k))
      ∙ ap (λ z. a ++ all_through ts (placed_alone gates Parl ps ++ placed_alone gates Parr z)) same
      ∙ ap (λ z. a ++ all_through ts (placed_alone gates Parl ps ++ z)) (sym (no_more (placed_alone gates Parr qs)))
      ∙ ap (λ z. a ++ all_through ts (placed_alone gates Parl ps ++ (placed_alone gates Parr qs ++ z)))
      (sym (none_together gates v (meeting gates v left) qs e))
    where
      no_more : (zs : List PlacedPlan) → zs ++ [] ≡ zs
      no_more [] = refl
      no_more (z ∷ zs) = ap (λ k. z ∷ k) (no_more zs)

  -- all three parts of a parallel composition, one behind the other
  pub sides_and_both : (gates : Synchronised) (v : Sought) (ps ms qs : List PlacedPlan) (ts us vs : List Turn) →
      us ≡ alone_by gates Parl ∷ ts →
      vs ≡ alone_by gates Parr ∷ ts →
      (a b c d : List PlacedPlan) →
      b ≡ a ++ all_through us ps →
      c ≡ b ++ all_through vs qs →
      d ≡ c ++ all_through ts (flat_map (stepped (with_another gates) (kept_partners theory gates v qs)) ms) →
      d ≡ a ++ all_through ts (kept_beside theory gates v ps ms qs)
  sides_and_both gates v ps ms qs ts us vs h k a b c d e f g =
      let both = flat_map (stepped (with_another gates) (kept_partners theory gates v qs)) ms in
      one_behind ts a b d (placed_alone gates Parl ps) (placed_alone gates Parr qs ++ both)
      (e ∙ ap (λ z. a ++ z) (rises_alone gates Parl ts us ps h))
      (one_behind ts b c d (placed_alone gates Parr qs) both (f ∙ ap (λ z. b ++ z) (rises_alone gates Parr ts vs qs k)) g)

  -- the sides of a choice and of a disabling
  pub chosen : (ps qs : List PlacedPlan) (ts us vs : List Turn) →
      us ≡ below_row Chl ∷ ts →
      vs ≡ below_row Chr ∷ ts →
      (a b c : List PlacedPlan) →
      b ≡ a ++ all_through us ps →
      c ≡ b ++ all_through vs qs →
      c ≡ a ++ all_through ts (placed_over_two theory choosing ps qs)
  chosen ps qs ts us vs h k a b c e f =
      one_behind ts a b c (map (turned_there (under_row Chl)) ps) (map (turned_there (under_row Chr)) qs)
      (e ∙ ap (λ z. a ++ z) (rises_below Chl ts us ps h)) (f ∙ ap (λ z. b ++ z) (rises_below Chr ts vs qs k))

  pub interrupted : (ps qs : List PlacedPlan) (ts us vs : List Turn) →
      us ≡ disabled ∷ ts →
      vs ≡ below_row Distake ∷ ts →
      (a b c : List PlacedPlan) →
      b ≡ a ++ all_through us ps →
      c ≡ b ++ all_through vs qs →
      c ≡ a ++ all_through ts (placed_over_two theory disabling ps qs)
  interrupted ps qs ts us vs h k a b c e f =
      one_behind ts a b c (map (turned_there plan_by_disabling) ps) (map (turned_there (under_row Distake)) qs)
      (e ∙ ap (λ z. a ++ z) (rises_disabled ts us ps h)) (f ∙ ap (λ z. b ++ z) (rises_below Distake ts vs qs k))
