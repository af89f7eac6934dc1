use Rattle.std.proofs.Common.{map, refl, rules}
use Rattle.spec_core.specs.Code.{program_of}
use Rattle.rule_model.specs.Derivations.{derivation_of}
use Rattle.symbolic_plans.specs.OpenPlans.{open_plan_of}
use Rattle.node_trees.specs.Rests.{way_of}
use Rattle.node_trees.specs.Shapes.{held_of, leaf}
use Rattle.board_tree.proofs.Moving.{moves_node}
use Rattle.board_tree.proofs.leaf.advance_expanded.Goals as goal

pub returns : goal.returns
returns c = record {
  moves =
      moves_node (program_of c.args.checked.now) c.args.next _ (held_of c.args.node.now)
      (record {
        plans = map open_plan_of c.args.expansion.now.composites.items;
        ways = map way_of c.as_slice-ways.result.now;
      }) (leaf (held_of c.args.node.now)) _ (derivation_of c.args.rules.now) _ refl (search rules)
      c.in_ok-done.ensures.acts c.in_ok-done.ensures.fresh;
}
