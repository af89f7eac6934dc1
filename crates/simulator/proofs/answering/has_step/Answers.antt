use Rattle.simulator.proofs.Counting.{lacks_there}
use Rattle.simulator.proofs.answering.has_step.Goals as goal

pub returns-in-Some-clause-lacks : goal.returns-in-Some-clause-lacks
returns-in-Some-clause-lacks c =
    lacks_there c.args.steps c.in-Some.count c.args.number c.is_within.result c.in-Some.is c.is_within.ensures
