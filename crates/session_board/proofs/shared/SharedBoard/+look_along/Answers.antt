use Rattle.std.proofs.Common.{◌∙◌}
use Rattle.std.proofs.lemmas.Result.{IfOk-weaker}
use Rattle.session_board.proofs.Growing.{grows_on}
use Rattle.session_board.proofs.shared.SharedBoard.+look_along.Goals as goal

pub returns-clause-step : goal.returns-clause-step
returns-clause-step t c =
    IfOk-weaker c.look_along.result _ _ (λ r h. (h.0, h.1, h.2 ∙ c.look.ensures.fixed, h.3)) c.look_along.ensures.step

pub returns-clause-none : goal.returns-clause-none
returns-clause-none t c = grows_on c.args.self.now c.look.new.self c.look_along.new.self c.look.ensures.none c.look_along.ensures.none
