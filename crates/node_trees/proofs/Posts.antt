-- What an expansion of a node leaves.
use Rattle.std.proofs.Common.{ℕ, ◌≡◌, ◌<◌, ◌==◌, Bool, true, false, if◌then◌else◌, List, [], ◌∷◌, Option, Some, None, refl}
use Rattle.std.proofs.Common.{sym, ap, subst, ◌∙◌}
use Rattle.std.proofs.lemmas.Bool.{eqb-true}
use Rattle.spec_core.specs.Code.{Program}
use Rattle.node_trees.specs.Generations.{AreApart, IsSound}
use Rattle.node_trees.specs.Origins.{meaning}
use Rattle.node_trees.specs.Posting.{is_there, posted_first}
use Rattle.node_trees.specs.Rests.{Work}
use Rattle.node_trees.specs.Shapes.{Held, Shape, leaf, ended, over, between, Above, under, first_of, second_of, Stands, IsNodeOf}
use Rattle.node_trees.specs.Shapes.{Lives, node_at, with_work, posted, stands_for, applied, joined, IsWorkOf, IsRight, IsWorkFor}
use Rattle.node_trees.proofs.Finding.{found_is_node, none_lives}

with_work_same : (g : ℕ) (work : Work) (n : Held) → with_work g work n ≡ n → leaf (with_work g work n) ≡ leaf n
with_work_same g work n e = ap leaf e

-- a node of another generation stays
other_stays : (g : ℕ) (work : Work) (n : Held) (b : Bool) → n.generation == g ≡ b → (n.generation ≡ g → ⊥) →
    (if b then record { generation = n.generation; source = n.source; work = Some work } else n) ≡ n
other_stays g work n true e h = absurd (h (eqb-true n.generation g e))
other_stays g work n false e h = refl

-- where the generation doesn't live nothing is changed
none_posted : (g : ℕ) (work : Work) (t : Shape) → ((n : Held) → IsNodeOf t g n → ⊥) → posted g work t ≡ t
none_posted g work (leaf n) h =
    ap leaf (other_stays g work n (n.generation == g) refl (λ e. h n (record { up = []; stands = refl; same = e })))
none_posted g work ended h = refl
none_posted g work (over o x) h =
    ap (over o) (none_posted g work x (λ n i. h n (record { up = under o ∷ i.up; stands = (refl, i.stands); same = i.same })))
none_posted g work (between o x y) h =
    ap (λ z. between o z (posted g work y))
    (none_posted g work x (λ n i. h n (record { up = first_of o ∷ i.up; stands = (refl, i.stands); same = i.same })))
    ∙ ap (between o x)
    (none_posted g work y (λ n i. h n (record { up = second_of o ∷ i.up; stands = (refl, i.stands); same = i.same })))

pub is_there_lives : (g : ℕ) (t : Shape) (b : Bool) (o : Option Held) → node_at g t ≡ o → is_there o ≡ b → b ≡ true → Lives t g
is_there_lives g t b None e i h = let no : ⊥ = cc in absurd no
is_there_lives g t b (Some n) e i h = record { node = n; is = found_is_node g t n e }

pub not_there : (g : ℕ) (t : Shape) (o : Option Held) → node_at g t ≡ o → is_there o ≡ false → Lives t g → ⊥
not_there g t None e i = none_lives g t e
not_there g t (Some n) e i = let no : ⊥ = cc in absurd no

-- where generations are apart, the first node of a generation is the only one
pub first_is_only : (g : ℕ) (work : Work) (t : Shape) → AreApart t → posted_first g work t ≡ posted g work t
first_is_only g work (leaf n) a = refl
first_is_only g work ended a = refl
first_is_only g work (over o x) a = ap (over o) (first_is_only g work x (λ up vp m n s u e.
    let r = a (under o ∷ up) (under o ∷ vp) m n (refl, s) (refl, u) e in (tails up vp r.0, r.1)))
  where
    tails : (up vp : List Above) → under o ∷ up ≡ under o ∷ vp → up ≡ vp
    tails up vp e = cc
first_is_only g work (between o x y) a =
    by_side (first_is_only g work x left_apart) (first_is_only g work y right_apart) (is_there (node_at g x)) refl
  where
    firsts : (up vp : List Above) → first_of o ∷ up ≡ first_of o ∷ vp → up ≡ vp
    firsts up vp e = cc

    seconds : (up vp : List Above) → second_of o ∷ up ≡ second_of o ∷ vp → up ≡ vp
    seconds up vp e = cc

    other_side : (up vp : List Above) → first_of o ∷ up ≡ second_of o ∷ vp → ⊥
    other_side up vp e = cc

    left_apart : AreApart x
    left_apart up vp m n s u e = let r = a (first_of o ∷ up) (first_of o ∷ vp) m n (refl, s) (refl, u) e in (firsts up vp r.0, r.1)

    right_apart : AreApart y
    right_apart up vp m n s u e = let r = a (second_of o ∷ up) (second_of o ∷ vp) m n (refl, s) (refl, u) e in (seconds up vp r.0, r.1)

    by_side : posted_first g work x ≡ posted g work x → posted_first g work y ≡ posted g work y →
        (b : Bool) → is_there (node_at g x) ≡ b →
        (if b then between o (posted_first g work x) y else between o x (posted_first g work y)) ≡ between o (posted g work x)
        (posted g work y)
    by_side h k true e =
        let l = is_there_lives g x (is_there (node_at g x)) (node_at g x) refl refl e in
        ap (λ z. between o z y) h
        ∙ ap (between o (posted g work x)) (sym (none_posted g work y (λ n i.
        other_side l.is.up i.up (a (first_of o ∷ l.is.up) (second_of o ∷ i.up) l.node n (refl, l.is.stands) (refl, i.stands)
        (l.is.same ∙ sym i.same)).0)))
    by_side h k false e =
        ap (between o x) k
        ∙ ap (λ z. between o z (posted g work y)) (sym (none_posted g work x (λ n i.
        not_there g x (node_at g x) refl e (record { node = n; is = i }))))

same_source : (g : ℕ) (work : Work) (n : Held) (b : Bool) →
    (if b then record { generation = n.generation; source = n.source; work = Some work } else n).source ≡ n.source
same_source g work n true = refl
same_source g work n false = refl

same_generation : (g : ℕ) (work : Work) (n : Held) (b : Bool) →
    (if b then record { generation = n.generation; source = n.source; work = Some work } else n).generation ≡ n.generation
same_generation g work n true = refl
same_generation g work n false = refl

pub posted_stands : (program : Program) (g : ℕ) (work : Work) (t : Shape) →
    stands_for program (posted g work t) ≡ stands_for program t
posted_stands program g work (leaf n) = ap (meaning program) (same_source g work n (n.generation == g))
posted_stands program g work ended = refl
posted_stands program g work (over o x) = ap (applied program o) (posted_stands program g work x)
posted_stands program g work (between o x y) =
    ap (λ b. joined o b (stands_for program (posted g work y))) (posted_stands program g work x)
    ∙ ap (joined o (stands_for program x)) (posted_stands program g work y)

-- each node after it is one before it
from_before : (g : ℕ) (work : Work) (t : Shape) (up : List Above) (n : Held) → Stands (posted g work t) up n →
    (m : Held) × Stands t up m × (with_work g work m ≡ n)
from_before g work (leaf m) [] n s = (m, refl, s)
from_before g work (over o x) (under p ∷ up) n s = let r = from_before g work x up n s.1 in (r.0, (s.0, r.1), r.2)
from_before g work (between o x y) (first_of p ∷ up) n s = let r = from_before g work x up n s.1 in (r.0, (s.0, r.1), r.2)
from_before g work (between o x y) (second_of p ∷ up) n s = let r = from_before g work y up n s.1 in (r.0, (s.0, r.1), r.2)
from_before g work _ _ n s = absurd s

generation_before : (g : ℕ) (work : Work) (m n : Held) → with_work g work m ≡ n → m.generation ≡ n.generation
generation_before g work m n e = sym (same_generation g work m (m.generation == g)) ∙ ap (λ k. k.generation) e

pub posted_sound : (g : ℕ) (work : Work) (t : Shape) (next : ℕ) → IsSound t next → IsSound (posted g work t) next
posted_sound g work t next s = record {
  apart = λ up vp m n a b e.
      let x = from_before g work t up m a in
      let y = from_before g work t vp n b in
      let r = s.apart up vp x.0 y.0 x.1 y.1 (generation_before g work x.0 m x.2 ∙ e ∙ sym (generation_before g work y.0 n y.2)) in
      (r.0, sym x.2 ∙ ap (with_work g work) r.1 ∙ y.2);
  below = λ up n a.
      let x = from_before g work t up n a in
      let b = s.below up x.0 x.1 in
      subst (λ k. k < next) (generation_before g work x.0 n x.2) b;
}

work_with : (program : Program) (g : ℕ) (work : Work) (m : Held) (b : Bool) → m.generation == g ≡ b →
    (m.generation ≡ g → IsWorkOf program m.source (Some work)) → IsWorkOf program m.source m.work →
    IsWorkOf program m.source
    (if b then record { generation = m.generation; source = m.source; work = Some work } else m).work
work_with program g work m true e h k = h (eqb-true m.generation g e)
work_with program g work m false e h k = k

pub posted_right : (program : Program) (g : ℕ) (work : Work) (t : Shape) → IsWorkFor program t g work → IsRight program t →
    IsRight program (posted g work t)
posted_right program g work t w r up n a =
    let x = from_before g work t up n a in
    let m = x.0 in
    let right = work_with program g work m (m.generation == g) refl (λ e. w m (record { up = up; stands = x.1; same = e })) (r up m x.1) in
    subst (λ k. IsWorkOf program k.source k.work) x.2
    (subst (λ o. IsWorkOf program o (with_work g work m).work) (sym (same_source g work m (m.generation == g))) right)

-- the same of the tree in which the first node of the generation is expanded

pub post_is_posted : (g next : ℕ) (work : Work) (t u : Shape) → u ≡ posted_first g work t → IsSound t next → u ≡ posted g work t
post_is_posted g next work t u e s = e ∙ first_is_only g work t s.apart

pub post_stands : (g next : ℕ) (work : Work) (t u : Shape) → u ≡ posted_first g work t → IsSound t next →
    (program : Program) → stands_for program u ≡ stands_for program t
post_stands g next work t u e s program =
    ap (stands_for program) (post_is_posted g next work t u e s) ∙ posted_stands program g work t

pub post_right : (g next : ℕ) (work : Work) (t u : Shape) → u ≡ posted_first g work t → IsSound t next →
    (program : Program) → IsWorkFor program t g work → IsRight program t → IsRight program u
post_right g next work t u e s program w r =
    subst (IsRight program) (sym (post_is_posted g next work t u e s)) (posted_right program g work t w r)

pub post_sound : (g next : ℕ) (work : Work) (t u : Shape) → u ≡ posted_first g work t → IsSound t next → IsSound u next
post_sound g next work t u e s =
    subst (λ v. IsSound v next) (sym (post_is_posted g next work t u e s)) (posted_sound g work t next s)
