use Rattle.std.proofs.Common.{rules, ◌≡◌, false, true, subst, sym}
use Rattle.board_record.specs.Faults.{ExplainsPend}
use Rattle.board_record.specs.declared.faults.PendFault.TheVariants.{NotOpen, AlreadyPending, NoSuchGate}
use Rattle.board_laws.specs.JobValues.{GivesValues}
use Rattle.board_core.specs.Views.{program, state}
use Rattle.session_board.specs.Growing.{GrowsByNone}
use Rattle.session_board.specs.Shared.{HasDrivenLog, SharedView}
use Rattle.session_board.proofs.Growing.{grows_by_mark}
use Rattle.session_board.specs.Faults.{MayBeMade}
use Rattle.session_board.proofs.Refusing.{hasnt_left, no_offer}
use Rattle.session_board.proofs.Sharing.{offer_driven, unnoted}
use Rattle.session_board.proofs.shared.SharedBoard.pend.Goals as goal

pub pend-requires : goal.pend-requires
pend-requires c = record {
  values =
      subst (λ (z : SharedView). GivesValues (program z.board).theory c.args.offer.now) (sym c.self.view_is) c.requires.values;
}

pub invariant_of-self : goal.invariant_of-self
invariant_of-self c =
    let p = c.in-Ok.ensures in
    unnoted c.pend.new.self
    (offer_driven c.self.inside.board c.pend.new.self c.args.client c.in-Ok.number c.args.offer.now c.args.ask p.setting p.stop p.may p.log
    p.state c.self.invariant.driven)

pub returns-in-Ok-clause-may : goal.returns-in-Ok-clause-may
returns-in-Ok-clause-may c =
    let old : SharedView = record { board = c.self.inside.board; halted = c.self.inside.halted } in
    let may = c.in-Ok.ensures.may in
    subst (λ (z : SharedView). MayBeMade z c.args.client c.args.offer.now) c.self.view_is
    (hasnt_left old c.self.invariant.driven c.args.client may.is_open, may.gate)

pub returns-in-Err-Memory-clause-none : goal.returns-in-Err-Memory-clause-none
returns-in-Err-Memory-clause-none c =
    let old : SharedView = record { board = c.self.inside.board; halted = c.self.inside.halted } in
    let new : SharedView = record { board = c.pend.new.self; halted = true } in
    let running : c.self.inside.halted ≡ false = search rules in
    subst (λ (z : SharedView). GrowsByNone z new) c.self.view_is (grows_by_mark old new running c.in-Err-Memory.ensures.same.2)

pub returns-in-Err-NotOpen-clause-fault : goal.returns-in-Err-NotOpen-clause-fault
returns-in-Err-NotOpen-clause-fault c =
    let old : SharedView = record { board = c.self.inside.board; halted = c.self.inside.halted } in
    let v = c.args.self.now in
    let driven : HasDrivenLog v.board = subst (λ (z : SharedView). HasDrivenLog z.board) c.self.view_is c.self.invariant.driven in
    let h = subst (ExplainsPend (program old.board) (state old.board) c.args.client c.args.offer.now) c.in-Err-NotOpen.field-0-is
    c.in-Err-NotOpen.ensures.fault in
    no_offer v driven v c.args.client c.requires.client.0 c.requires.client.1 c.args.offer.now NotOpen
    (subst (λ (z : SharedView). ExplainsPend (program z.board) (state z.board) c.args.client c.args.offer.now NotOpen) c.self.view_is h)
    (λ e. let never : ⊥ = cc in absurd never)

pub returns-in-Err-AlreadyPending-clause-fault : goal.returns-in-Err-AlreadyPending-clause-fault
returns-in-Err-AlreadyPending-clause-fault c =
    let old : SharedView = record { board = c.self.inside.board; halted = c.self.inside.halted } in
    let v = c.args.self.now in
    let driven : HasDrivenLog v.board = subst (λ (z : SharedView). HasDrivenLog z.board) c.self.view_is c.self.invariant.driven in
    let h = subst (ExplainsPend (program old.board) (state old.board) c.args.client c.args.offer.now) c.in-Err-AlreadyPending.field-0-is
    c.in-Err-AlreadyPending.ensures.fault in
    no_offer v driven v c.args.client c.requires.client.0 c.requires.client.1 c.args.offer.now AlreadyPending
    (subst (λ (z : SharedView). ExplainsPend (program z.board) (state z.board) c.args.client c.args.offer.now AlreadyPending) c.self.view_is h)
    (λ e. let never : ⊥ = cc in absurd never)

pub returns-in-Err-NoSuchGate-clause-fault : goal.returns-in-Err-NoSuchGate-clause-fault
returns-in-Err-NoSuchGate-clause-fault c =
    let old : SharedView = record { board = c.self.inside.board; halted = c.self.inside.halted } in
    let v = c.args.self.now in
    let driven : HasDrivenLog v.board = subst (λ (z : SharedView). HasDrivenLog z.board) c.self.view_is c.self.invariant.driven in
    let h = subst (ExplainsPend (program old.board) (state old.board) c.args.client c.args.offer.now) c.in-Err-NoSuchGate.field-0-is
    c.in-Err-NoSuchGate.ensures.fault in
    no_offer v driven v c.args.client c.requires.client.0 c.requires.client.1 c.args.offer.now NoSuchGate
    (subst (λ (z : SharedView). ExplainsPend (program z.board) (state z.board) c.args.client c.args.offer.now NoSuchGate) c.self.view_is h)
    (λ e. let never : ⊥ = cc in absurd never)
