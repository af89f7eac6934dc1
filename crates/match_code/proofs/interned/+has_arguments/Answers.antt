use Rattle.std.proofs.Common.{arith}
use Rattle.value_nodes.proofs.Nodes.{within}
use Rattle.match_code.proofs.interned.+has_arguments.Goals as goal

pub has_arguments-requires : goal.has_arguments-requires
has_arguments-requires t c = (
  omega (arith, c.decreases, c.in-len1-up.len_at_least),
  within c.args.nodes.now c.in-More-at.rest c.in-More-at.ensures.seen.1,
)
