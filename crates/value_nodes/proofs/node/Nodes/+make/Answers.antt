use Rattle.std.proofs.Common.{◌≤◌, length, arith}
use Rattle.std.proofs.lemmas.Result.{IfOk-weaker}
use Rattle.value_nodes.proofs.Own.{cost_none, cost_one, cost_more, own_none, own_one, own_more, shorter, if_made}
use Rattle.value_nodes.proofs.node.Nodes.+make.Goals as goal

pub returns-in_ok-node-in-empty-clause-cost : goal.returns-in_ok-node-in-empty-clause-cost
returns-in_ok-node-in-empty-clause-cost t c =
    cost_none c.args.self.now c.args.values.now _ _ c.in-empty.len_below c.in_ok-node-in-empty.ensures.cost

pub returns-in-len1-clause-cost : goal.returns-in-len1-clause-cost
returns-in-len1-clause-cost t c =
    IfOk-weaker c.make_one.result _ _
    (λ n e. cost_one c.args.self.now c.args.values.now _ _ _ c.in-len1.len_at_least c.in-len1.len_below e)
    c.make_one.ensures.cost

pub returns-in_ok-rest-in-len1-up-clause-cost : goal.returns-in_ok-rest-in-len1-up-clause-cost
returns-in_ok-rest-in-len1-up-clause-cost t c =
    let rest = c.in_ok-rest-in-len1-up in
    let some : 1 ≤ length c.args.values.now = omega (arith, c.in-len1-up.len_at_least) in
    IfOk-weaker c.make_more.result _ _
    (λ n e. cost_more c.args.self.now c.make.new.self rest.rest c.args.values.now _ _ _ some c.requires.there
    rest.ensures.longer rest.ensures.cost e)
    c.make_more.ensures.cost

pub returns-in_ok-node-in-empty-clause-own : goal.returns-in_ok-node-in-empty-clause-own
returns-in_ok-node-in-empty-clause-own t c = λ theory closed stays short own.
    let made = c.in_ok-node-in-empty.ensures in
    own_none theory closed c.args.self.now c.add.new.self c.args.op.0 c.in_ok-node-in-empty.node c.args.own c.args.values.now
    c.in-empty.len_below own made.longer made.others made.small made.there made.tree made.cost stays

pub returns-in-len1-clause-own : goal.returns-in-len1-clause-own
returns-in-len1-clause-own t c =
    let made = c.make_one.ensures in
    if_made c.make_one.result
    (λ n longer there tree cost others small theory closed stays short own.
    own_one theory closed c.args.self.now c.make_one.new.self c.args.op.0 n c.args.own _ c.args.values.now c.in-len1.len_at_least
    c.in-len1.len_below c.requires.there own longer others small there tree cost stays)
    made.longer made.there made.tree made.cost made.others made.small

pub returns-in_ok-rest-in-len1-up-clause-own : goal.returns-in_ok-rest-in-len1-up-clause-own
returns-in_ok-rest-in-len1-up-clause-own t c =
    let rest = c.in_ok-rest-in-len1-up in
    let made = c.make_more.ensures in
    let some : 1 ≤ length c.args.values.now = omega (arith, c.in-len1-up.len_at_least) in
    if_made c.make_more.result
    (λ n longer there tree cost others small theory closed stays short own.
    let few = shorter theory c.args.op.0 c.args.self.now c.args.values.now some short in
    let before = rest.ensures.own theory closed few.0 few.1 own in
    own_more theory closed c.args.self.now c.make.new.self c.make_more.new.self c.args.op.0 rest.rest n c.args.own _ c.args.values.now
    some c.requires.there rest.ensures.longer rest.ensures.tree rest.ensures.cost own before longer others small there
    tree cost stays)
    made.longer made.there made.tree made.cost made.others made.small
