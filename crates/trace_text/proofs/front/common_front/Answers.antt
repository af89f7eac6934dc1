use Rattle.std.proofs.Common.{rules, ◌≡◌, ◌≤◌, arith, length, min}
use Rattle.trace_text.proofs.Fronts.{front_whole}
use Rattle.trace_text.proofs.front.common_front.Goals as goal

pub returns-clause-front : goal.returns-clause-front
returns-clause-front c =
    let end : c.min-end.result ≡ min (length c.args.text.now) (length c.args.other.now) = search rules in
    let over : c.min-end.result ≤ c.loop-i.i = search rules in
    front_whole c.min-end.result c.loop-i.i c.args.text.now c.args.other.now end over c.loop-i.auto.i-end c.loop-i.invariant
