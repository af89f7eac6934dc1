use Rattle.std.proofs.Common.{refl, subst, true}
use Rattle.std.specs.Prelude.{IfNone}
use Rattle.session_board.specs.Growing.{GrowsByNone}
use Rattle.session_board.specs.Looks.{IsUnanswered}
use Rattle.session_board.specs.Shared.{SharedView, lines}
use Rattle.session_board.proofs.Growing.{grows_by_mark}
use Rattle.session_board.proofs.Looking.{finds_none, looks_on}
use Rattle.session_board.proofs.shared.SharedBoard.look.Goals as goal

pub returns-in-Err-clause-none : goal.returns-in-Err-clause-none
returns-in-Err-clause-none c =
    let old : SharedView = record { board = c.self.inside.board; halted = c.self.inside.halted } in
    let new : SharedView = record { board = c.self.inside.board; halted = true } in
    subst (λ (z : SharedView). GrowsByNone z new) c.self.view_is (grows_by_mark old new c.if-self.false refl)

pub returns-in_ok-look-in-Ok-default-None-clause-found : goal.returns-in_ok-look-in-Ok-default-None-clause-found
returns-in_ok-look-in-Ok-default-None-clause-found c =
    finds_none c.args.self.now.board c.look_on.new.self.board (lines c.look_on.new.self) c.args.name c.in-Ok-default-None.place
    c.in_ok-look-in-Ok-default-None.look c.in_ok-look-in-Ok-default-None.ensures.step

pub returns-in_ok-look-in-Ok-default-None-clause-step : goal.returns-in_ok-look-in-Ok-default-None-clause-step
returns-in_ok-look-in-Ok-default-None-clause-step c =
    looks_on c.args.self.now c.look_on.new.self c.args.name c.args.spot c.in_ok-look-in-Ok-default-None.look
    (subst (λ o. IfNone o (IsUnanswered c.args.self.now c.args.name c.args.spot)) c.in-Ok-default-None.field-0-1-is
    c.in-Ok-default-None.ensures.none)
    c.in_ok-look-in-Ok-default-None.ensures.step
