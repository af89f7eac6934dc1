use Rattle.std.proofs.Common.{rules, ◌≡◌, false, true, subst}
use Rattle.board_record.specs.Faults.{ExplainsLeave}
use Rattle.board_record.specs.declared.faults.LeaveFault.TheVariants.{NotOpen, Pending}
use Rattle.board_core.specs.Views.{state}
use Rattle.session_board.specs.Growing.{GrowsByNone}
use Rattle.session_board.specs.Shared.{HasDrivenLog, SharedView}
use Rattle.session_board.proofs.Growing.{grows_by_mark}
use Rattle.session_board.specs.Faults.{HasntLeft}
use Rattle.session_board.proofs.Refusing.{answers_after_leave, hasnt_left, no_leave}
use Rattle.session_board.proofs.Sharing.{leave_driven, unnoted}
use Rattle.session_board.proofs.shared.SharedBoard.leave.Goals as goal

pub invariant_of-self : goal.invariant_of-self
invariant_of-self c =
    let p = c.in-Ok.ensures in
    unnoted c.leave.new.self
    (leave_driven c.self.inside.board c.leave.new.self c.args.client p.setting p.stop p.may p.log p.state c.self.invariant.driven)

pub returns-in-Ok-clause-answered : goal.returns-in-Ok-clause-answered
returns-in-Ok-clause-answered c =
    let p = c.in-Ok.ensures in
    let new : SharedView = record { board = c.leave.new.self; halted = c.self.inside.halted } in
    answers_after_leave new
    (leave_driven c.self.inside.board c.leave.new.self c.args.client p.setting p.stop p.may p.log p.state c.self.invariant.driven)
    (state c.self.inside.board) c.args.client p.may p.state

pub returns-in-Ok-clause-may : goal.returns-in-Ok-clause-may
returns-in-Ok-clause-may c =
    let old : SharedView = record { board = c.self.inside.board; halted = c.self.inside.halted } in
    subst (λ (z : SharedView). HasntLeft z c.args.client) c.self.view_is
    (hasnt_left old c.self.invariant.driven c.args.client c.in-Ok.ensures.may.is_open)

pub returns-in-Err-Memory-clause-none : goal.returns-in-Err-Memory-clause-none
returns-in-Err-Memory-clause-none c =
    let old : SharedView = record { board = c.self.inside.board; halted = c.self.inside.halted } in
    let new : SharedView = record { board = c.leave.new.self; halted = true } in
    let running : c.self.inside.halted ≡ false = search rules in
    subst (λ (z : SharedView). GrowsByNone z new) c.self.view_is (grows_by_mark old new running c.in-Err-Memory.ensures.same.2)

pub returns-in-Err-NotOpen-clause-fault : goal.returns-in-Err-NotOpen-clause-fault
returns-in-Err-NotOpen-clause-fault c =
    let old : SharedView = record { board = c.self.inside.board; halted = c.self.inside.halted } in
    let v = c.args.self.now in
    let driven : HasDrivenLog v.board = subst (λ (z : SharedView). HasDrivenLog z.board) c.self.view_is c.self.invariant.driven in
    let h = subst (ExplainsLeave (state old.board) c.args.client) c.in-Err-NotOpen.field-0-is c.in-Err-NotOpen.ensures.fault in
    no_leave v driven v c.args.client c.requires.client.0 c.requires.client.1 NotOpen
    (subst (λ (z : SharedView). ExplainsLeave (state z.board) c.args.client NotOpen) c.self.view_is h)
    (λ e. let never : ⊥ = cc in absurd never)

pub returns-in-Err-Pending-clause-fault : goal.returns-in-Err-Pending-clause-fault
returns-in-Err-Pending-clause-fault c =
    let old : SharedView = record { board = c.self.inside.board; halted = c.self.inside.halted } in
    let v = c.args.self.now in
    let driven : HasDrivenLog v.board = subst (λ (z : SharedView). HasDrivenLog z.board) c.self.view_is c.self.invariant.driven in
    let h = subst (ExplainsLeave (state old.board) c.args.client) c.in-Err-Pending.field-0-is c.in-Err-Pending.ensures.fault in
    no_leave v driven v c.args.client c.requires.client.0 c.requires.client.1 Pending
    (subst (λ (z : SharedView). ExplainsLeave (state z.board) c.args.client Pending) c.self.view_is h)
    (λ e. let never : ⊥ = cc in absurd never)
