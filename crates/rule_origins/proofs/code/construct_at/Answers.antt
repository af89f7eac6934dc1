use Rattle.std.proofs.Common.{Some}
use Rattle.spec_core.specs.Code.{node_of, program_of}
use Rattle.rule_origins.proofs.Opening.{opened_at}
use Rattle.rule_origins.proofs.code.construct_at.Goals as goal

pub returns-in-Some-clause-some : goal.returns-in-Some-clause-some
returns-in-Some-clause-some c =
    opened_at (program_of c.args.checked.now) c.requires.ready c.args.number (Some (node_of c.in-Some.node.now)) c.in-Some.ensures.some
