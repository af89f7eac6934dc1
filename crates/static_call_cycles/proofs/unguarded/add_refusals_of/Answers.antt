use Rattle.std.proofs.Common.{map}
use Rattle.static_call_cycles.proofs.Cycles.{off_cycle}
use Rattle.static_call_cycles.proofs.unguarded.add_refusals_of.Goals as goal

pub returns-else-branch : goal.returns-else-branch
returns-else-branch c = off_cycle (map (λ n. n.now) c.args.names.now) c.args.links.now c.args.caller c.args.calls.now c.args.refusals.now.items
    c.requires.linked (c.in_ok-may_reach.ensures c.if-branch.false)
