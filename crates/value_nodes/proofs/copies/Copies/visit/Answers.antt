use Rattle.std.proofs.Common.{rules, ◌∙◌}
use Rattle.value_nodes.proofs.Nodes.{within}
use Rattle.value_nodes.proofs.Copied.{part_there, part_read, one_copied, more_copied}
use Rattle.value_nodes.proofs.copies.Copies.visit.Goals as goal

pub index-requires : goal.index-requires
index-requires c =
    let n = part_there c.args.from.now c.args.into.now c.args.self.now c.requires.copies c.in-One.arg c.in-One.ensures.seen.0 in
    search (n, rules)

pub wait-requires-clause-part : goal.wait-requires-clause-part
wait-requires-clause-part c = within c.args.from.now c.in-One.arg c.in-One.ensures.seen.0

pub keep-requires-in-Some-clause-row : goal.keep-requires-in-Some-clause-row
keep-requires-in-Some-clause-row c =
    let read = part_read c.args.from.now c.args.into.now c.args.self.now c.requires.copies in
    one_copied c.args.from.now c.args.into.now c.args.self.now c.requires.copies c.args.node c.in-One.op c.in-One.size c.in-One.arg
    c.in-One.cost c.in-Some.arg c.in-One.ensures.cost c.in-One.ensures.seen
    (read c.in-One.arg c.index.result.now c.in-One.ensures.seen.0 (search rules) ∙ c.in-Some.is)

pub index-requires-in-More : goal.index-requires-in-More
index-requires-in-More c =
    let n = part_there c.args.from.now c.args.into.now c.args.self.now c.requires.copies c.in-More.arg c.in-More.ensures.seen.0 in
    search (n, rules)

pub wait-requires-in-None-index-clause-part : goal.wait-requires-in-None-index-clause-part
wait-requires-in-None-index-clause-part c = within c.args.from.now c.in-More.arg c.in-More.ensures.seen.0

pub index-requires-in-Some-index : goal.index-requires-in-Some-index
index-requires-in-Some-index c =
    let n = part_there c.args.from.now c.args.into.now c.args.self.now c.requires.copies c.in-More.rest c.in-More.ensures.seen.1 in
    search (n, rules)

pub wait-requires-in-None-index-2-clause-part : goal.wait-requires-in-None-index-2-clause-part
wait-requires-in-None-index-2-clause-part c = within c.args.from.now c.in-More.rest c.in-More.ensures.seen.1

pub keep-requires-in-Some-index-2-clause-row : goal.keep-requires-in-Some-index-2-clause-row
keep-requires-in-Some-index-2-clause-row c =
    let read = part_read c.args.from.now c.args.into.now c.args.self.now c.requires.copies in
    more_copied c.args.from.now c.args.into.now c.args.self.now c.requires.copies c.args.node c.in-More.op c.in-More.size
    c.in-More.arg c.in-More.rest c.in-More.cost c.in-Some-index.first c.in-Some-index-2.others c.in-More.ensures.cost
    c.in-More.ensures.seen
    (read c.in-More.arg c.index-in-More.result.now c.in-More.ensures.seen.0 (search rules) ∙ c.in-Some-index.is)
    (read c.in-More.rest c.index-in-Some-index.result.now c.in-More.ensures.seen.1 (search rules) ∙ c.in-Some-index-2.is)
