-- What nodes that live on stand for.
use Rattle.std.proofs.Common.{ℕ, ◌≡◌, ◌∙◌, ◌==◌, List, [], ◌∷◌, refl, sym, ap, subst, Some, Bool, true, false, if◌then◌else◌, arith}
use Rattle.node_trees.specs.Rests.{Work}
use Rattle.node_trees.specs.Shapes.{Held, Shape, leaf, over, between, Above, under, first_of, second_of, Stands, IsNodeOf, posted}
use Rattle.board_core.specs.Views.{BoardView, tree}
use Rattle.board_core.specs.Working.{KeepsNodes}

-- a node is expanded

with_its_work : (g : ℕ) (work : Work) (n : Held) (b : Bool) (m : Held) →
    (if b then record { generation = n.generation; source = n.source; work = Some work } else n) ≡ m →
    (n.generation ≡ m.generation) × (m.source ≡ n.source)
with_its_work g work n true m e = (ap (λ (k : Held). k.generation) e, ap (λ (k : Held). k.source) (sym e))
with_its_work g work n false m e = (ap (λ (k : Held). k.generation) e, ap (λ (k : Held). k.source) (sym e))

node_before : (h g : ℕ) (work : Work) (t : Shape) (up : List Above) (m : Held) → Stands (posted h work t) up m → m.generation ≡ g →
    (n : Held) × IsNodeOf t g n × (m.source ≡ n.source)
node_before h g work (leaf n) [] m s e =
    let r = with_its_work h work n (n.generation == h) m s in (n, record { up = []; stands = refl; same = r.0 ∙ e }, r.1)
node_before h g work (over o x) (under p ∷ up) m s e =
    let r = node_before h g work x up m s.1 e in
    (r.0, record { up = under p ∷ r.1.up; stands = (s.0, r.1.stands); same = r.1.same }, r.2)
node_before h g work (between o x y) (first_of p ∷ up) m s e =
    let r = node_before h g work x up m s.1 e in
    (r.0, record { up = first_of p ∷ r.1.up; stands = (s.0, r.1.stands); same = r.1.same }, r.2)
node_before h g work (between o x y) (second_of p ∷ up) m s e =
    let r = node_before h g work y up m s.1 e in
    (r.0, record { up = second_of p ∷ r.1.up; stands = (s.0, r.1.stands); same = r.1.same }, r.2)
node_before h g work _ _ m s e = absurd s

pub post_keeps : (old new : BoardView) (g : ℕ) (work : Work) → tree new ≡ posted g work (tree old) →
    new.session.tree.next ≡ old.session.tree.next → KeepsNodes old new
post_keeps old new h work e next = record {
  more = omega (arith, next);
  was = λ g m is below.
      let there = subst (λ (t : Shape). IsNodeOf t g m) e is in
      node_before h g work (tree old) there.up m there.stands there.same;
}

-- what the node of a generation stands for
