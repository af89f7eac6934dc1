-- The generations in which two trees differ.
use Rattle.std.proofs.Common.{ℕ, ◌≡◌, inl, inr, ⊎_elim, Bool, true, false, if◌then◌else◌, List, [], ◌∷◌, refl, sym, ap, subst}
use Rattle.spec_core.specs.Lists.{IsOneOf}
use Rattle.spec_core.proofs.Members.{one_parts, one_left, one_right}
use Rattle.node_trees.specs.declared.origin.Gen.{Gen}
use Rattle.node_trees.specs.Differences.{IsDifference, missing}
use Rattle.node_trees.specs.Posting.{is_there}
use Rattle.node_trees.specs.Shapes.{Held, Shape, leaf, ended, over, between, Above, under, first_of, second_of, Stands, Lives}
use Rattle.node_trees.specs.Shapes.{node_at, Unary, Binary}
use Rattle.node_trees.proofs.Posts.{is_there_lives, not_there}

only_leaf : (n : Held) (y : Shape) (g : Gen) (b : Bool) → is_there (node_at n.generation y) ≡ b →
    IsOneOf g (if b then [] else record { 0 = n.generation } ∷ []) → Lives (leaf n) g.0 × (Lives y g.0 → ⊥)
only_leaf n y g true e h = absurd h
only_leaf n y g false e (inl i) =
    let same : n.generation ≡ g.0 = ap (λ (k : Gen). k.0) (sym i) in (
      record { node = n; is = record { up = []; stands = refl; same = same } },
      λ l. not_there n.generation y (node_at n.generation y) refl e (subst (Lives y) (sym same) l),
    )
only_leaf n y g false e (inr i) = absurd i

lives_over : (o : Unary) (x : Shape) (g : ℕ) → Lives x g → Lives (over o x) g
lives_over o x g l = record { node = l.node; is = record { up = under o ∷ l.is.up; stands = (refl, l.is.stands); same = l.is.same } }

lives_first : (o : Binary) (x z : Shape) (g : ℕ) → Lives x g → Lives (between o x z) g
lives_first o x z g l =
    record { node = l.node; is = record { up = first_of o ∷ l.is.up; stands = (refl, l.is.stands); same = l.is.same } }

lives_second : (o : Binary) (x z : Shape) (g : ℕ) → Lives z g → Lives (between o x z) g
lives_second o x z g l =
    record { node = l.node; is = record { up = second_of o ∷ l.is.up; stands = (refl, l.is.stands); same = l.is.same } }

missing_lives : (x y : Shape) (g : Gen) → IsOneOf g (missing x y) → Lives x g.0 × (Lives y g.0 → ⊥)
missing_lives (leaf n) y g h = only_leaf n y g (is_there (node_at n.generation y)) refl h
missing_lives ended y g h = absurd h
missing_lives (over o x) y g h = let r = missing_lives x y g h in (lives_over o x g.0 r.0, r.1)
missing_lives (between o x z) y g h =
    ⊎_elim
    (λ l. let r = missing_lives x y g l in (lives_first o x z g.0 r.0, r.1))
    (λ l. let r = missing_lives z y g l in (lives_second o x z g.0 r.0, r.1))
    (one_parts g (missing x y) (missing z y) h)

leaf_missing : (n : Held) (y : Shape) (b : Bool) → is_there (node_at n.generation y) ≡ b → (Lives y n.generation → ⊥) →
    IsOneOf {A = Gen} (record { 0 = n.generation }) (if b then [] else record { 0 = n.generation } ∷ [])
leaf_missing n y true e h =
    absurd (h (is_there_lives n.generation y (is_there (node_at n.generation y)) (node_at n.generation y) refl refl e))
leaf_missing n y false e h = inl refl

stands_missing : (x y : Shape) (up : List Above) (n : Held) → Stands x up n → (Lives y n.generation → ⊥) →
    IsOneOf {A = Gen} (record { 0 = n.generation }) (missing x y)
stands_missing (leaf m) y [] n s h =
    subst (λ g. IsOneOf {A = Gen} (record { 0 = g }) (missing (leaf m) y)) (ap (λ k. k.generation) s)
    (leaf_missing m y (is_there (node_at m.generation y)) refl (subst (λ g. Lives y g → ⊥) (ap (λ k. k.generation) (sym s)) h))
stands_missing (over o x) y (under p ∷ up) n s h = stands_missing x y up n s.1 h
stands_missing (between o x z) y (first_of p ∷ up) n s h =
    one_left (record { 0 = n.generation }) (missing x y) (missing z y) (stands_missing x y up n s.1 h)
stands_missing (between o x z) y (second_of p ∷ up) n s h =
    one_right (record { 0 = n.generation }) (missing x y) (missing z y) (stands_missing z y up n s.1 h)
stands_missing _ y _ n s h = absurd s

pub missing_is_difference : (x y : Shape) → IsDifference (missing x y) x y
missing_is_difference x y g = (
  missing_lives x y g,
  λ h.
      let l = h.0 in
      subst (λ k. IsOneOf {A = Gen} (record { 0 = k }) (missing x y)) l.is.same
      (stands_missing x y l.is.up l.node l.is.stands (subst (λ k. Lives y k → ⊥) (sym l.is.same) h.1)),
)

pub difference_of : (generations : List Gen) (x y : Shape) → generations ≡ missing x y → IsDifference generations x y
difference_of generations x y e = subst (λ l. IsDifference l x y) (sym e) (missing_is_difference x y)
