use Rattle.std.proofs.Common.{rules, ◌≡◌, ◌∷◌, ◌++◌, [], subst, sym, length}
use Rattle.value_nodes.specs.Nodes.{trees_of, tree_at, cost_of, cost_at, node_tree, AreMade, AreSmall, IsLonger}
use Rattle.value_nodes.proofs.Nodes.{all_small, pushed, pushed_tree, pushed_cost, pushed_longer}
use Rattle.value_nodes.proofs.node.Nodes.add.Goals as goal

pub invariant_of-self-2 : goal.invariant_of-self-2
invariant_of-self-2 c =
    let e : c.push.new.self.items ≡ c.args.self.now ++ c.args.row ∷ [] = search rules in
    let m : AreMade [] c.args.self.now = search rules in
    subst (AreMade []) (sym e) (pushed c.args.self.now c.args.row m c.requires.made)

pub returns-clause-small : goal.returns-clause-small
returns-clause-small c =
    let e : c.push.new.self.items ≡ c.args.self.now ++ c.args.row ∷ [] = search rules in
    let m : AreMade [] c.args.self.now = search rules in
    subst AreSmall (sym e) (all_small (c.args.self.now ++ c.args.row ∷ []) (pushed c.args.self.now c.args.row m c.requires.made))

pub returns-clause-longer : goal.returns-clause-longer
returns-clause-longer c =
    let e : c.push.new.self.items ≡ c.args.self.now ++ c.args.row ∷ [] = search rules in
    subst (IsLonger c.args.self.now) (sym e) (pushed_longer c.args.self.now c.args.row)

pub returns-clause-tree : goal.returns-clause-tree
returns-clause-tree c =
    let e : c.push.new.self.items ≡ c.args.self.now ++ c.args.row ∷ [] = search rules in
    let n : c.len-place.result ≡ length c.args.self.now = search rules in
    subst (λ rows. tree_at rows c.len-place.result ≡ node_tree (trees_of c.args.self.now) c.args.row) (sym e)
    (subst (λ k. tree_at (c.args.self.now ++ c.args.row ∷ []) k ≡ node_tree (trees_of c.args.self.now) c.args.row) (sym n)
    (pushed_tree c.args.self.now c.args.row))

pub returns-clause-cost : goal.returns-clause-cost
returns-clause-cost c =
    let e : c.push.new.self.items ≡ c.args.self.now ++ c.args.row ∷ [] = search rules in
    let n : c.len-place.result ≡ length c.args.self.now = search rules in
    subst (λ rows. cost_at rows c.len-place.result ≡ cost_of c.args.row) (sym e)
    (subst (λ k. cost_at (c.args.self.now ++ c.args.row ∷ []) k ≡ cost_of c.args.row) (sym n) (pushed_cost c.args.self.now c.args.row))
