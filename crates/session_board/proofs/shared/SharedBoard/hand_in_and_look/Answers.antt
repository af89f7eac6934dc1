use Rattle.std.proofs.Common.{◌∙◌}
use Rattle.std.proofs.lemmas.Result.{IfOk-weaker}
use Rattle.session_board.specs.Looks.{IsHandedIn}
use Rattle.session_board.proofs.Growing.{grows_on}
use Rattle.session_board.proofs.shared.SharedBoard.hand_in_and_look.Goals as goal

pub returns-clause-handed : goal.returns-clause-handed
returns-clause-handed c =
    let h = c.in_ok-hand_in.ensures in
    let handed : IsHandedIn c.args.self.now.board c.hand_in.new.self.board c.args.job c.args.outcome =
    record { taken = h.taken; late = h.late; out = h.out } in
    IfOk-weaker c.look_along.result _ _ (λ r k. (c.hand_in.new.self, handed, k)) c.look_along.ensures.step

pub returns-clause-step : goal.returns-clause-step
returns-clause-step c =
    IfOk-weaker c.look_along.result _ _ (λ r h. (h.0, h.1, h.2 ∙ c.hand_in.ensures.fixed, h.3)) c.look_along.ensures.step

pub returns-clause-none : goal.returns-clause-none
returns-clause-none c =
    grows_on c.args.self.now c.hand_in.new.self c.look_along.new.self c.hand_in.ensures.none c.look_along.ensures.none
