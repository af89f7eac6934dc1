use Rattle.std.proofs.Common.{rules, ◌≡◌, subst}
use Rattle.spec_core.specs.Code.{program_of}
use Rattle.board_tree.specs.Views.{shape}
use Rattle.board_record.proofs.Asking.{not_open, is_idle, may_leave}
use Rattle.board_record.specs.Views.{state}
use Rattle.log_states.specs.Possible.{HasPending}
use Rattle.node_trees.specs.Shapes.{stands_for}
use Rattle.board_record.proofs.record.Record.leave.Goals as goal

pub returns-then-not-is_open-clause-fault : goal.returns-then-not-is_open-clause-fault
returns-then-not-is_open-clause-fault c =
    let s = c.self.inside.session in
    let t = c.args.self.now.session in
    let same : s ≡ t = search rules in
    (is_idle s t c.args.client same c.is_idle.result c.is_idle.ensures.idle (search rules), not_open s t c.args.client same c.is_open.result c.is_open.ensures (search rules))

pub put_leave-requires : goal.put_leave-requires
put_leave-requires c =
    let s = c.self.inside.session in
    let t = c.args.self.now.session in
    record { may = may_leave s t c.args.client (search rules) (state c.args.self.now).behaviour c.is_open.result c.is_idle.result c.is_open.ensures c.is_idle.ensures.idle (search rules) (search rules) }

pub returns-in-Ok-clause-may : goal.returns-in-Ok-clause-may
returns-in-Ok-clause-may c =
    let s = c.self.inside.session in
    let t = c.args.self.now.session in
    may_leave s t c.args.client (search rules) (state c.args.self.now).behaviour c.is_open.result c.is_idle.result c.is_open.ensures c.is_idle.ensures.idle (search rules) (search rules)

pub returns-in-Err-clause-fault : goal.returns-in-Err-clause-fault
returns-in-Err-clause-fault c =
    let s = c.self.inside.session in
    let t = c.args.self.now.session in
    may_leave s t c.args.client (search rules) (state c.args.self.now).behaviour c.is_open.result c.is_idle.result c.is_open.ensures c.is_idle.ensures.idle (search rules) (search rules)

pub returns-then-not-is_idle-clause-fault : goal.returns-then-not-is_idle-clause-fault
returns-then-not-is_idle-clause-fault c =
    subst (λ z. HasPending (state z) c.args.client) c.self.view_is
    (c.is_idle.ensures.waits (stands_for (program_of c.self.inside.checked) (shape c.self.inside.tree)) c.if-not-is_idle.true)
