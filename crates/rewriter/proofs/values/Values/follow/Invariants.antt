use Rattle.std.proofs.Common.{◌≡◌, map, take}
use Rattle.spec_core.specs.Lists.{Each}
use Rattle.value_nodes.specs.Copies.{AreCopies}
use Rattle.value_nodes.specs.Nodes.{tree_at, IsNode, IsLonger}
use Rattle.rewriter.proofs.values.Values.follow.Given as goal

abbrev pub invariant-loop-node : goal.invariant-loop-node
invariant-loop-node l = record {
  copies : AreCopies l.from l.into l.copies;
  longer : IsLonger l.fn.into l.into;
  there : Each (IsNode l.into) l.nodes.items;
  same : map (tree_at l.into) l.nodes.items ≡ map (tree_at l.from) (take l.node-index l.node-items);
}
