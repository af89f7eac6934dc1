use Rattle.std.proofs.Common.{◌≡◌, ◌++◌, map}
use Rattle.spec_core.specs.Lists.{Each}
use Rattle.spec_core.specs.Numbers.{op_number}
use Rattle.spec_core.specs.Terms.{preorder}
use Rattle.value_nodes.specs.Nodes.{tree_at}
use Rattle.value_nodes.specs.Parts.{words, IsPart}
use Rattle.value_nodes.proofs.spelling.spell.Given as goal

abbrev pub invariant-loop-turn : goal.invariant-loop-turn
invariant-loop-turn l = record {
  there : Each (IsPart l.nodes) l.parts.items;
  spelled : preorder (tree_at l.nodes l.node) ≡ map op_number l.ops.items ++ words l.nodes l.parts.items;
}
