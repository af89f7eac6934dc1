use Rattle.std.proofs.Common.{rules, ◌≡◌, ◌<◌, Some, length, arith, ◌∙◌}
use Rattle.value_nodes.specs.Copies.{copy_at}
use Rattle.value_nodes.specs.Nodes.{IsNode}
use Rattle.value_nodes.proofs.Copied.{read_copy, next_there}
use Rattle.value_nodes.proofs.copies.Copies.copy.Goals as goal

pub returns-in-Some-clause-there : goal.returns-in-Some-clause-there
returns-in-Some-clause-there c =
    let n : c.args.node < length c.loop-turn.self = omega (arith, c.requires.there, c.loop-turn.invariant.copies.one_each) in
    let q : copy_at c.loop-turn.self c.args.node ≡ Some c.in-Some.copy =
    read_copy c.loop-turn.self c.args.node c.index.result.now n (search rules) ∙ c.in-Some.is in
    (c.loop-turn.invariant.copies.same c.args.node c.in-Some.copy q).0

pub returns-in-Some-clause-cost : goal.returns-in-Some-clause-cost
returns-in-Some-clause-cost c =
    let n : c.args.node < length c.loop-turn.self = omega (arith, c.requires.there, c.loop-turn.invariant.copies.one_each) in
    let q : copy_at c.loop-turn.self c.args.node ≡ Some c.in-Some.copy =
    read_copy c.loop-turn.self c.args.node c.index.result.now n (search rules) ∙ c.in-Some.is in
    (c.loop-turn.invariant.copies.same c.args.node c.in-Some.copy q).2

pub visit-requires-clause-there : goal.visit-requires-clause-there
visit-requires-clause-there c =
    next_there (IsNode c.args.from.now) c.loop-turn.waiting.items c.pop.new.self.items c.pop.result c.args.node c.unwrap_or-next.result
    c.loop-turn.invariant.waiting c.pop.ensures.items c.requires.there c.unwrap_or-next.ensures
