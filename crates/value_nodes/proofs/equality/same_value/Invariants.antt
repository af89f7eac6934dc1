use Rattle.std.proofs.Common.{◌≡◌}
use Rattle.spec_core.specs.Lists.{Each}
use Rattle.value_nodes.specs.Nodes.{tree_at}
use Rattle.value_nodes.specs.Parts.{IsPair, IsAlike}
use Rattle.value_nodes.proofs.equality.same_value.Given as goal

abbrev pub invariant-loop-turn : goal.invariant-loop-turn
invariant-loop-turn l = record {
  there : Each (IsPair l.nodes) l.pairs.items;
  to : Each (IsAlike l.nodes) l.pairs.items → tree_at l.nodes l.left ≡ tree_at l.nodes l.right;
  from : tree_at l.nodes l.left ≡ tree_at l.nodes l.right → Each (IsAlike l.nodes) l.pairs.items;
}
