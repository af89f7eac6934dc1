use Rattle.std.proofs.Common.{rules, ◌≡◌, ◌∙◌, [], ap, subst, length}
use Rattle.std.proofs.lemmas.List.{nil_from_length}
use Rattle.board_core.specs.Views.{state}
use Rattle.session_board.specs.Shared.{HasDrivenLog, SharedView}
use Rattle.session_board.proofs.Sharing.{all_have_left, not_all_have_left}
use Rattle.session_board.proofs.shared.SharedBoard.rest.Goals as goal

pub returns-then-open_clients-eq0 : goal.returns-then-open_clients-eq0
returns-then-open_clients-eq0 c =
    let v = c.args.self.now in
    let driven : HasDrivenLog v.board = subst (λ (z : SharedView). HasDrivenLog z.board) c.self.view_is c.self.invariant.driven in
    let zero : length (state c.self.inside.board).open_clients ≡ 0 = search rules in
    let none : (state v.board).open_clients ≡ [] =
    subst (λ (z : SharedView). (state z.board).open_clients ≡ []) c.self.view_is (nil_from_length (state c.self.inside.board).open_clients zero) in
    ((c.requires.idle, none), all_have_left v driven none)

pub returns-else-open_clients-eq0 : goal.returns-else-open_clients-eq0
returns-else-open_clients-eq0 c =
    let v = c.args.self.now in
    let driven : HasDrivenLog v.board = subst (λ (z : SharedView). HasDrivenLog z.board) c.self.view_is c.self.invariant.driven in
    let some : (state v.board).open_clients ≡ [] → ⊥ =
    subst (λ (z : SharedView). (state z.board).open_clients ≡ [] → ⊥) c.self.view_is
    (λ e. c.if-open_clients-eq0.false (c.open_clients.ensures ∙ ap length e)) in
    ((c.requires.idle, some), not_all_have_left v driven some)
