use Rattle.std.proofs.Common.{rules, ◌≡◌, false, true, subst}
use Rattle.board_work.proofs.Going as going
use Rattle.session_board.specs.Growing.{GrowsByNone}
use Rattle.session_board.specs.Shared.{SharedView}
use Rattle.session_board.proofs.Growing.{grows_by_none}
use Rattle.session_board.proofs.Sharing.{goes_on_driven, unnoted}
use Rattle.session_board.proofs.shared.SharedBoard.take_in.Goals as goal

pub invariant_of-self : goal.invariant_of-self
invariant_of-self c =
    unnoted c.hand_in.new.board
    (goes_on_driven c.self.inside.board c.hand_in.new.board (going.handed c.self.inside.board c.hand_in.new.board c.hand_in.ensures.handed)
    c.self.invariant.driven)

pub returns-in-Ok-clause-none : goal.returns-in-Ok-clause-none
returns-in-Ok-clause-none c =
    let old : SharedView = record { board = c.self.inside.board; halted = c.self.inside.halted } in
    let new : SharedView = record { board = c.hand_in.new.board; halted = c.self.inside.halted } in
    let g = going.handed c.self.inside.board c.hand_in.new.board c.hand_in.ensures.handed in
    let running : c.self.inside.halted ≡ false = search rules in
    subst (λ (z : SharedView). GrowsByNone z new) c.self.view_is (grows_by_none old new g.more running g.log g.own)

pub returns-in-Err-clause-none : goal.returns-in-Err-clause-none
returns-in-Err-clause-none c =
    let old : SharedView = record { board = c.self.inside.board; halted = c.self.inside.halted } in
    let new : SharedView = record { board = c.hand_in.new.board; halted = true } in
    let g = going.handed c.self.inside.board c.hand_in.new.board c.hand_in.ensures.handed in
    let running : c.self.inside.halted ≡ false = search rules in
    subst (λ (z : SharedView). GrowsByNone z new) c.self.view_is (grows_by_none old new g.more running g.log g.own)
