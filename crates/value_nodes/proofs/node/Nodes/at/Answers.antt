use Rattle.std.proofs.Common.{rules}
use Rattle.value_nodes.proofs.Nodes.{read, read_cost}
use Rattle.value_nodes.proofs.node.Nodes.at.Goals as goal

pub returns : goal.returns
returns c = record {
  seen = read c.args.self.now c.args.node c.index.result.now (search rules) (search rules) (search rules);
  cost = read_cost c.args.self.now c.args.node c.index.result.now (search rules) (search rules);
}
