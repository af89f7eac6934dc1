use Rattle.std.proofs.Common.{refl, subst, true}
use Rattle.session_board.specs.Growing.{GrowsByNone}
use Rattle.session_board.specs.Shared.{SharedView}
use Rattle.session_board.proofs.Growing.{grows_by_mark}
use Rattle.session_board.proofs.shared.SharedBoard.hand_in.Goals as goal

pub returns-in-Err-clause-none : goal.returns-in-Err-clause-none
returns-in-Err-clause-none c =
    let old : SharedView = record { board = c.self.inside.board; halted = c.self.inside.halted } in
    let new : SharedView = record { board = c.self.inside.board; halted = true } in
    subst (λ (z : SharedView). GrowsByNone z new) c.self.view_is (grows_by_mark old new c.if-self.false refl)
