use Rattle.std.proofs.Common.{rules, ◌≡◌, ◌++◌, ◌∷◌, [], get_or, reverse, map, subst, sym, ap, ◌∙◌}
use Rattle.spec_core.specs.Lists.{Each}
use Rattle.spec_core.proofs.Lists.{each_push, each_get_or, own_default}
use Rattle.value_nodes.specs.Nodes.{tree_at, IsNode}
use Rattle.value_nodes.proofs.Nodes.{longer_on, same_trees, still_nodes}
use Rattle.rewriter.proofs.Tops.{each_reversed}
use Rattle.rewriter.proofs.Following.{each_back, followed, followed_next}
use Rattle.rewriter.proofs.values.Values.follow.Goals as goal

pub copy-requires-clause-there : goal.copy-requires-clause-there
copy-requires-clause-there c =
    let items = c.deref-node-items.result.now in
    let r : c.args.self.now ≡ reverse items = search rules in
    each_get_or (IsNode c.args.from.now) items c.loop-node.node-index 0 c.loop-node-test.true
    (each_back (IsNode c.args.from.now) items (subst (Each (IsNode c.args.from.now)) r c.requires.there))

pub loop-node-preserved : goal.loop-node-preserved
loop-node-preserved c =
    let items = c.deref-node-items.result.now in
    let done = c.loop-node.nodes.items in
    let before = c.loop-node.into in
    let after = c.copy.new.into in
    let inv = c.loop-node.invariant in
    let made = c.in_ok-copy.ensures in
    let x = get_or items c.loop-node.node-index 0 in
    let e : c.push.new.self.items ≡ done ++ c.in_ok-copy.copy ∷ [] = search rules in
    record {
      copies = made.copies;
      longer = longer_on c.args.into.now before after inv.longer made.longer;
      there = subst (Each (IsNode after)) (sym e)
          (each_push (IsNode after) done c.in_ok-copy.copy (still_nodes before after made.longer done inv.there) made.there);
      same = followed_next (tree_at c.args.from.now) (tree_at before) (tree_at after) items done c.push.new.self.items
          c.loop-node.node-index x c.in_ok-copy.copy c.loop-node-test.true
          (own_default items c.loop-node.node-index 0 c.loop-node-test.true) inv.same
          (same_trees before after made.longer done inv.there) made.tree e;
    }

pub returns-clause-there : goal.returns-clause-there
returns-clause-there c = each_reversed (IsNode c.loop-node.into) c.loop-node.nodes.items c.loop-node.invariant.there

pub returns-clause-same : goal.returns-clause-same
returns-clause-same c =
    let items = c.deref-node-items.result.now in
    let r : c.args.self.now ≡ reverse items = search rules in
    followed (tree_at c.args.from.now) (tree_at c.loop-node.into) items c.loop-node.nodes.items c.loop-node.node-index
    c.loop-node-test.false c.loop-node.invariant.same
    ∙ ap (map (tree_at c.args.from.now)) (sym r)
