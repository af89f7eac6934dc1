use Rattle.std.proofs.Common.{rules, arith, ◌≡◌, ◌<◌, subst, length}
use Rattle.spec_core.specs.Code.{program_of}
use Rattle.board_tree.specs.Views.{shape}
use Rattle.board_record.proofs.Asking.{is_open, is_idle}
use Rattle.board_record.specs.Views.{state}
use Rattle.log_states.specs.Possible.{HasPending}
use Rattle.node_trees.specs.Shapes.{stands_for}
use Rattle.board_record.proofs.record.Record.pend.Goals as goal

pub returns-then-offer-len-clause-fault : goal.returns-then-offer-len-clause-fault
returns-then-offer-len-clause-fault c =
    let s = c.self.inside.session in
    let t = c.args.self.now.session in
    let same : s ≡ t = search rules in
    let count : c.len.result ≡ length c.args.self.now.checked.gates.items = search rules in
    let none = c.if-offer-len.true in (
      is_open s t c.args.client same c.is_open.result c.is_open.ensures (search rules),
      is_idle s t c.args.client same c.is_idle.result c.is_idle.ensures.idle (search rules),
      λ h. omega (arith, count, none, h),
    )

pub put_offer-requires-clause-idle : goal.put_offer-requires-clause-idle
put_offer-requires-clause-idle c =
    let s = c.self.inside.session in
    let t = c.args.self.now.session in
    let same : s ≡ t = search rules in
    is_idle s t c.args.client same c.is_idle.result c.is_idle.ensures.idle (search rules)

pub returns-in-Err-clause-fault : goal.returns-in-Err-clause-fault
returns-in-Err-clause-fault c =
    let s = c.self.inside.session in
    let t = c.args.self.now.session in
    let same : s ≡ t = search rules in
    let fits : c.args.offer.now.gate.0 < length c.args.self.now.checked.gates.items = search rules in
    (is_open s t c.args.client same c.is_open.result c.is_open.ensures (search rules), is_idle s t c.args.client same c.is_idle.result c.is_idle.ensures.idle (search rules), fits)

pub returns-then-not-is_idle-clause-fault : goal.returns-then-not-is_idle-clause-fault
returns-then-not-is_idle-clause-fault c =
    let s = c.self.inside.session in
    let t = c.args.self.now.session in
    let same : s ≡ t = search rules in
    let waits =
    subst (λ z. HasPending (state z) c.args.client) c.self.view_is
    (c.is_idle.ensures.waits (stands_for (program_of c.self.inside.checked) (shape c.self.inside.tree)) c.if-not-is_idle.true) in
    (is_open s t c.args.client same c.is_open.result c.is_open.ensures (search rules), waits)
