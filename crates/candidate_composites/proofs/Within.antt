-- Where less is sought at the whole, less is sought below; and what is left out of a left side is nothing that is sought.
use Rattle.std.proofs.Common.{ℕ, suc, ◌≡◌, ◌==◌, ◌<◌, ◌+◌, ◌++◌, ◌||◌, ◌∙◌, List, [], ◌∷◌, filter, refl, sym, ap, arith, Bool, true, false, cond}
use Rattle.std.proofs.Common.{if◌then◌else◌, Option, Some, None}
use Rattle.std.proofs.lemmas.Bool.Decides.{Decides-eqb}
use Rattle.std.proofs.lemmas.Bool.{or_left}
use Rattle.rule_model.specs.Actions.{Kind, inside, ends, at_gate}
use Rattle.decision_trees.specs.Gaps.{element, gap}
use Rattle.symbolic_composites.specs.Kinds.{same_kind}
use Rattle.symbolic_composites.proofs.Tests.{same_kind_so}
use Rattle.candidate_laws.specs.Sought.{Sought, every_kind, these_kinds, is_one_kind, is_sought, seeks_some, Step, kind_above, is_one_above}
use Rattle.candidate_laws.specs.Sought.{sought_at, sought_below}
use Rattle.candidate_laws.proofs.Sought.{below_is_above, those_below}
use Rattle.candidate_composites.specs.Kept.{keeps, where_sought}
use Rattle.candidate_composites.specs.Known.{PlacedPlan, made, awaited}
use Rattle.candidate_composites.proofs.Staying.{some_is_sought}
use Rattle.candidate_composites.proofs.Those.{sift, nothing_sought}

-- whatever is sought here is sought there
abbrev pub IsWithin : Sought → Sought → Type 0
IsWithin v u = (k : Kind) → is_sought v k ≡ true → is_sought u k ≡ true

-- No list has all kinds: there is a gate above all that it has.

abbrev gates_of : List Kind → ℕ
gates_of [] = 0
gates_of (inside ∷ ks) = gates_of ks
gates_of (ends ∷ ks) = gates_of ks
gates_of (at_gate g ∷ ks) = g + gates_of ks

not_named : (ks : List Kind) (n : ℕ) → gates_of ks < n → is_one_kind (at_gate n) ks ≡ false
not_named [] n h = refl
not_named (inside ∷ ks) n h = not_named ks n h
not_named (ends ∷ ks) n h = not_named ks n h
not_named (at_gate g ∷ ks) n h = by_test (n == g) refl (not_named ks n (omega (arith, h)))
  where
    by_test : (b : Bool) → n == g ≡ b → is_one_kind (at_gate n) ks ≡ false → b || is_one_kind (at_gate n) ks ≡ false
    by_test true e f = let same = (Decides-eqb n g).0 e in absurd (omega (arith, h, same))
    by_test false e f = f

no_list_has_all : (ks : List Kind) → ((k : Kind) → is_one_kind k ks ≡ true) → ⊥
no_list_has_all ks h =
    let no : false ≡ true = sym (not_named ks (suc (gates_of ks)) (omega arith)) ∙ h (at_gate (suc (gates_of ks))) in
    absurd cc

within_below : (step : Step) (v u : Sought) → IsWithin v u → IsWithin (sought_below step v) (sought_below step u)
within_below step every_kind every_kind h = λ k e. e
within_below step every_kind (these_kinds ms) h = absurd (no_list_has_all ms (λ k. h k refl))
within_below step (these_kinds ks) u h = λ k e. by_above k (kind_above step k) refl (sym (those_below step ks k) ∙ e)
  where
    by_above : (k : Kind) (o : Option Kind) → kind_above step k ≡ o → is_one_above ks o ≡ true → is_sought (sought_below step u) k ≡ true
    by_above k None f g = let no : false ≡ true = g in absurd cc
    by_above k (Some j) f g = below_is_above step u k j f ∙ h j g

within_at : (steps : List Step) (v u : Sought) → IsWithin v u → IsWithin (sought_at steps v) (sought_at steps u)
within_at [] v u h = h
within_at (step ∷ steps) v u h = within_below step (sought_at steps v) (sought_at steps u) (within_at steps v u h)

some_still : (v u : Sought) → IsWithin v u → seeks_some v ≡ true → seeks_some u ≡ true
some_still every_kind u h e = some_is_sought u inside (h inside refl)
some_still (these_kinds []) u h e = let no : false ≡ true = e in absurd cc
some_still (these_kinds (k ∷ ks)) u h e =
    some_is_sought u k (h k (or_left (same_kind k k) (is_one_kind k ks) (same_kind_so k k refl)))

none_either : (v u : Sought) → IsWithin v u → seeks_some u ≡ false → seeks_some v ≡ false
none_either v u h e = by_test (seeks_some v) refl
  where
    by_test : (b : Bool) → seeks_some v ≡ b → b ≡ false
    by_test true f = let no : true ≡ false = sym (some_still v u h f) ∙ e in absurd cc
    by_test false f = refl

keeping_sifted : (v u : Sought) → IsWithin v u → (ps : List PlacedPlan) → sift v (filter (keeps u) ps) ≡ sift v ps
keeping_sifted v u h [] = refl
keeping_sifted v u h (made p ∷ ps) = ap (λ z. (if is_sought v p.kind then element p ∷ [] else []) ++ z) (keeping_sifted v u h ps)
keeping_sifted v u h (awaited g steps ∷ ps) = by_test (seeks_some (sought_at steps u)) refl (keeping_sifted v u h ps)
  where
    by_test : (b : Bool) → seeks_some (sought_at steps u) ≡ b → sift v (filter (keeps u) ps) ≡ sift v ps →
        sift v (cond b (awaited g steps ∷ filter (keeps u) ps) (filter (keeps u) ps)) ≡
        (if seeks_some (sought_at steps v) then gap g ∷ [] else []) ++ sift v ps
    by_test true e f = ap (λ z. (if seeks_some (sought_at steps v) then gap g ∷ [] else []) ++ z) f
    by_test false e f =
        f
        ∙ ap (λ (b : Bool). (if b then gap g ∷ [] else []) ++ sift v ps)
        (sym (none_either (sought_at steps v) (sought_at steps u) (within_at steps v u h) e))

pub kept_sifted : (step : Step) (v u : Sought) → IsWithin v u → (ps : List PlacedPlan) →
    sift (sought_below step v) (filter (keeps (sought_below step u)) ps) ≡ sift (sought_below step v) ps
kept_sifted step v u h ps = keeping_sifted (sought_below step v) (sought_below step u) (within_below step v u h) ps

pub where_sifted : (step : Step) (v u : Sought) → IsWithin v u → (ps : List PlacedPlan) →
    sift (sought_below step v) (where_sought step u ps) ≡ sift (sought_below step v) ps
where_sifted step v u h ps = by_test (seeks_some (sought_below step u)) refl
  where
    by_test : (b : Bool) → seeks_some (sought_below step u) ≡ b →
        sift (sought_below step v) (if b then filter (keeps (sought_below step u)) ps else []) ≡ sift (sought_below step v) ps
    by_test true e = kept_sifted step v u h ps
    by_test false e =
        sym (nothing_sought (sought_below step v) (none_either (sought_below step v) (sought_below step u) (within_below step v u h) e) ps)
