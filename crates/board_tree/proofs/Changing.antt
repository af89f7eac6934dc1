-- What a change makes of a tree, and the generations that it ends and begins.
use Rattle.std.proofs.Common.{ℕ, ◌≡◌, ◌⊎◌, inl, inr, ⊎_elim, List, [], ◌∷◌, refl, sym, subst, ◌∙◌, ◌++◌, arith}
use Rattle.spec_core.specs.Lists.{IsOneOf}
use Rattle.spec_core.proofs.Members.{one_parts, one_left, one_right}
use Rattle.node_trees.specs.declared.origin.Gen.{Gen}
use Rattle.node_trees.specs.Differences.{IsDifference}
use Rattle.node_trees.specs.Generations.{IsSound}
use Rattle.node_trees.specs.Shapes.{Held, Shape, leaf, over, between, Above, under, first_of, second_of, Stands, Lives, shape_of}
use Rattle.node_trees.specs.Shapes.{Unary, Binary}
use Rattle.board_tree.specs.Changes.{changed, Adds, BeginsIn, EndsIn, IsOnlyIn}
use Rattle.board_tree.specs.Keeping.{Advances}
use Rattle.board_tree.specs.declared.change.Change.{Change}
use Rattle.board_tree.specs.declared.change.Change.TheVariants.{Stays, Becomes, Over', Between'}

pub lives_at : (t : Shape) (up : List Above) (n : Held) (g : ℕ) → Stands t up n → n.generation ≡ g → Lives t g
lives_at t up n g s e = record { node = n; is = record { up = up; stands = s; same = e } }

-- a node of the first tree, in whose place the second has none of its generation
record Gone (t u : Shape) (g : ℕ) : Type 0 where
  up : List Above
  node : Held
  stands : Stands t up node
  same : node.generation ≡ g
  never : (m : Held) → Stands u up m → m.generation ≡ g → ⊥

gone_whole : (t u : Shape) (g : ℕ) → IsOnlyIn t u g → Gone t u g
gone_whole t u g h = record {
  up = h.0.is.up;
  node = h.0.node;
  stands = h.0.is.stands;
  same = h.0.is.same;
  never = λ m s e. h.1 (lives_at u h.0.is.up m g s e);
}

-- what ends where a tree changes is gone there
ends_gone : (c : Change) (t : Shape) (g : ℕ) → EndsIn c t g → Gone t (changed c t) g
ends_gone (Becomes new) t g h = gone_whole t (shape_of new.value) g h
ends_gone (Over' p c) (over o x) g h =
    let r = ends_gone c x g h in
    record { up = under o ∷ r.up; node = r.node; stands = (refl, r.stands); same = r.same; never = λ m s e. r.never m s.1 e }
ends_gone (Between' p c q e) (between o x y) g h =
    ⊎_elim
    (λ l. let r = ends_gone c x g l in record {
      up = first_of o ∷ r.up;
      node = r.node;
      stands = (refl, r.stands);
      same = r.same;
      never = λ m s e. r.never m s.1 e;
    })
    (λ l. let r = ends_gone e y g l in record {
      up = second_of o ∷ r.up;
      node = r.node;
      stands = (refl, r.stands);
      same = r.same;
      never = λ m s e. r.never m s.1 e;
    }) h
ends_gone _ t g h = absurd h

-- what begins there is new there
begins_gone : (c : Change) (t : Shape) (g : ℕ) → BeginsIn c t g → Gone (changed c t) t g
begins_gone (Becomes new) t g h = gone_whole (shape_of new.value) t g h
begins_gone (Over' p c) (over o x) g h =
    let r = begins_gone c x g h in
    record { up = under o ∷ r.up; node = r.node; stands = (refl, r.stands); same = r.same; never = λ m s e. r.never m s.1 e }
begins_gone (Between' p c q e) (between o x y) g h =
    ⊎_elim
    (λ l. let r = begins_gone c x g l in record {
      up = first_of o ∷ r.up;
      node = r.node;
      stands = (refl, r.stands);
      same = r.same;
      never = λ m s e. r.never m s.1 e;
    })
    (λ l. let r = begins_gone e y g l in record {
      up = second_of o ∷ r.up;
      node = r.node;
      stands = (refl, r.stands);
      same = r.same;
      never = λ m s e. r.never m s.1 e;
    }) h
begins_gone _ t g h = absurd h

-- the node of this generation stands in one of the trees alone
abbrev Absent : Shape → Held → Type 0
Absent u n = Lives u n.generation → ⊥

absent_over : (o : Unary) (x : Shape) (n : Held) → Absent (over o x) n → Absent x n
absent_over o x n h l = h (lives_at (over o x) (under o ∷ l.is.up) l.node n.generation (refl, l.is.stands) l.is.same)

absent_first : (o : Binary) (x y : Shape) (n : Held) → Absent (between o x y) n → Absent x n
absent_first o x y n h l = h (lives_at (between o x y) (first_of o ∷ l.is.up) l.node n.generation (refl, l.is.stands) l.is.same)

absent_second : (o : Binary) (x y : Shape) (n : Held) → Absent (between o x y) n → Absent y n
absent_second o x y n h l = h (lives_at (between o x y) (second_of o ∷ l.is.up) l.node n.generation (refl, l.is.stands) l.is.same)

-- a generation that isn't in the changed tree ends where the tree changes
gone_ends : (c : Change) (t : Shape) (up : List Above) (n : Held) → Stands t up n → Absent (changed c t) n → EndsIn c t n.generation
gone_ends (Becomes new) t up n s h = (lives_at t up n n.generation s refl, h)
gone_ends (Over' p c) (over o x) (under q ∷ up) n s h = gone_ends c x up n s.1 (absent_over o (changed c x) n h)
gone_ends (Between' p c q e) (between o x y) (first_of r ∷ up) n s h =
    inl (gone_ends c x up n s.1 (absent_first o (changed c x) (changed e y) n h))
gone_ends (Between' p c q e) (between o x y) (second_of r ∷ up) n s h =
    inr (gone_ends e y up n s.1 (absent_second o (changed c x) (changed e y) n h))
gone_ends Stays t up n s h = absurd (h (lives_at t up n n.generation s refl))
gone_ends (Over' p c) (leaf m) up n s h = absurd (h (lives_at (leaf m) up n n.generation s refl))
gone_ends (Over' p c) (between o x y) up n s h = absurd (h (lives_at (between o x y) up n n.generation s refl))
gone_ends (Between' p c q e) (leaf m) up n s h = absurd (h (lives_at (leaf m) up n n.generation s refl))
gone_ends (Between' p c q e) (over o x) up n s h = absurd (h (lives_at (over o x) up n n.generation s refl))
gone_ends _ _ up n s h = absurd s

-- a generation that isn't in the tree before begins where it changes
come_begins : (c : Change) (t : Shape) (up : List Above) (n : Held) → Stands (changed c t) up n → Absent t n → BeginsIn c t n.generation
come_begins (Becomes new) t up n s h = (lives_at (shape_of new.value) up n n.generation s refl, h)
come_begins (Over' p c) (over o x) (under q ∷ up) n s h = come_begins c x up n s.1 (absent_over o x n h)
come_begins (Between' p c q e) (between o x y) (first_of r ∷ up) n s h = inl (come_begins c x up n s.1 (absent_first o x y n h))
come_begins (Between' p c q e) (between o x y) (second_of r ∷ up) n s h = inr (come_begins e y up n s.1 (absent_second o x y n h))
come_begins Stays t up n s h = absurd (h (lives_at t up n n.generation s refl))
come_begins (Over' p c) (leaf m) up n s h = absurd (h (lives_at (leaf m) up n n.generation s refl))
come_begins (Over' p c) (between o x y) up n s h = absurd (h (lives_at (between o x y) up n n.generation s refl))
come_begins (Between' p c q e) (leaf m) up n s h = absurd (h (lives_at (leaf m) up n n.generation s refl))
come_begins (Between' p c q e) (over o x) up n s h = absurd (h (lives_at (over o x) up n n.generation s refl))
come_begins _ _ up n s h = absurd s

-- From a sound tree a step leads to the changed one: what ends and begins where it changes ends and begins in the whole.
module _ (same : List Above → Type 0) (low high : ℕ) (c : Change) (t : Shape) (sound : IsSound t low)
    (moved : Advances same low high t (changed c t)) where
  abbrev new : Shape
  new = changed c t

  ended_nowhere : (g : ℕ) → Gone t new g → Lives new g → ⊥
  ended_nowhere g r l =
      ⊎_elim
      (λ k.
      let one = sound.apart r.up l.is.up r.node l.node r.stands k.0 (r.same ∙ sym l.is.same) in
      r.never l.node (subst (λ up. Stands new up l.node) (sym one.0) l.is.stands) l.is.same)
      (λ k.
      let f = k.from in let b = sound.below r.up r.node r.stands in let d = r.same in let e = l.is.same in omega (arith, f, b, d, e))
      (moved.keeps l.is.up l.node l.is.stands)

  began_nowhere : (g : ℕ) → Gone new t g → Lives t g → ⊥
  began_nowhere g r l =
      ⊎_elim (λ k. r.never r.node k.0 r.same)
      (λ k.
      let f = k.from in let b = sound.below l.is.up l.node l.is.stands in let d = r.same in let e = l.is.same in omega (arith, f, b, d, e))
      (moved.keeps r.up r.node r.stands)

  pub ends_difference : (gone : List Gen) → Adds (EndsIn c t) [] gone → IsDifference gone t new
  ends_difference gone a g = (
    λ i.
        ⊎_elim (λ n. absurd n)
        (λ h. let r = ends_gone c t g.0 h in (lives_at t r.up r.node g.0 r.stands r.same, ended_nowhere g.0 r)) ((a g).0 i),
    λ h.
        let l = h.0 in
        (a g).1
        (inr (subst (EndsIn c t) l.is.same
        (gone_ends c t l.is.up l.node l.is.stands (subst (λ k. Lives new k → ⊥) (sym l.is.same) h.1)))),
  )

  pub begins_difference : (came : List Gen) → Adds (BeginsIn c t) [] came → IsDifference came new t
  begins_difference came a g = (
    λ i.
        ⊎_elim (λ n. absurd n)
        (λ h. let r = begins_gone c t g.0 h in (lives_at new r.up r.node g.0 r.stands r.same, began_nowhere g.0 r)) ((a g).0 i),
    λ h.
        let l = h.0 in
        (a g).1
        (inr (subst (BeginsIn c t) l.is.same
        (come_begins c t l.is.up l.node l.is.stands (subst (λ k. Lives t k → ⊥) (sym l.is.same) h.1)))),
  )

-- Lists to which generations are added.

pub adds_nothing : (all : List Gen) → Adds (λ g. ⊥) all all
adds_nothing all g = (λ i. inl i, λ i. ⊎_elim (λ l. l) (λ n. absurd n) i)

pub adds_both : (P Q : ℕ → Type 0) (first second third : List Gen) → Adds P first second → Adds Q second third →
    Adds (λ g. P g ⊎ Q g) first third
adds_both P Q first second third a b g = (
  λ i. ⊎_elim (λ l. ⊎_elim (λ k. inl k) (λ k. inr (inl k)) ((a g).0 l)) (λ r. inr (inr r)) ((b g).0 i),
  λ i. ⊎_elim (λ l. (b g).1 (inl ((a g).1 (inl l)))) (λ r. ⊎_elim (λ k. (b g).1 (inl ((a g).1 (inr k)))) (λ k. (b g).1 (inr k)) r) i,
)

pub adds_difference : (x y : Shape) (those first second : List Gen) → IsDifference those x y → second ≡ first ++ those →
    Adds (IsOnlyIn x y) first second
adds_difference x y those first second d e g = (
  λ i. ⊎_elim (λ l. inl l) (λ r. inr ((d g).0 r)) (one_parts g first those (subst (IsOneOf g) e i)),
  λ i. subst (IsOneOf g) (sym e) (⊎_elim (λ l. one_left g first those l) (λ r. one_right g first those ((d g).1 r)) i),
)

-- what holds of two holds of two that are the same
pub of_the_same : {A B : Type 0} (P : A → B → Type 0) (x y : A) (u v : B) → x ≡ y → u ≡ v → P x u → P y v
of_the_same P x y u v e f h = subst (P y) f (subst (λ z. P z u) e h)
