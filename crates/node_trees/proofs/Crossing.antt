-- Trees of nodes may go to other threads.
use denote.Param.Send.{IsSend}
use Rattle.node_trees.proofs.branch.Branch.TheLaws.TheKnot as branch
use Rattle.node_trees.proofs.rest.Rest.TheLaws.TheKnot as rest
use Rattle.node_trees.specs.contracts.branch.Branch as branch_row
use Rattle.node_trees.specs.contracts.expansion.Alternative as alternative
use Rattle.node_trees.specs.contracts.expansion.Expansion as expansion
use Rattle.node_trees.specs.contracts.node.Node as node
use Rattle.node_trees.specs.contracts.rest.Rest as rest_row
use Rattle.spec_core.proofs.Crossing.{simple}
use Rattle.symbolic_plans.proofs.Crossing.{scheme_send, composite_send}

pub rest_send : IsSend (rest_row.the_field).row
rest_send = search (rest.crosses, simple) depth 60 fits 20000

pub alternative_send : IsSend alternative.the_row
alternative_send = search (rest_send, scheme_send, simple) depth 60 fits 20000

pub expansion_send : IsSend expansion.the_row
expansion_send = search (alternative_send, composite_send, simple) depth 60 fits 20000

pub node_send : IsSend (node.the_field).row
node_send = search (expansion_send, simple) depth 60 fits 20000

pub branch_send : IsSend (branch_row.the_field).row
branch_send = search (node_send, branch.crosses, simple) depth 60 fits 20000
