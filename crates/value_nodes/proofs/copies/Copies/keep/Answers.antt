use Rattle.std.proofs.Common.{rules, ◌≡◌, ◌∙◌, set, subst, Some}
use Rattle.value_nodes.specs.Copies.{AreCopies}
use Rattle.value_nodes.proofs.Copied.{kept}
use Rattle.value_nodes.proofs.copies.Copies.keep.Goals as goal

pub returns-clause-copies : goal.returns-clause-copies
returns-clause-copies c =
    let v : c.args.self.now ≡ c.self.inside.numbers.items = search rules in
    subst (λ copies. AreCopies c.args.from.now c.add.new.self (set copies c.args.node (Some c.in_ok-copy.copy))) v
    (kept c.args.from.now c.args.into.now c.add.new.self c.args.self.now c.args.node c.in_ok-copy.copy c.requires.copies
    c.requires.there c.in_ok-copy.ensures.longer c.in_ok-copy.ensures.there (c.in_ok-copy.ensures.tree ∙ c.requires.row.1)
    (c.in_ok-copy.ensures.cost ∙ c.requires.row.2)
    c.in_ok-copy.ensures.others)
