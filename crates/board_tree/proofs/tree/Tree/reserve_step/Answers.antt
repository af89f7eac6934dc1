use Rattle.board_tree.proofs.tree.Tree.reserve_step.Goals as goal

pub returns-clause-reserved : goal.returns-clause-reserved
returns-clause-reserved c =
    let r = c.in_ok-ready.ensures in (r.moved, r.gone c.self.invariant, r.came c.self.invariant)
