use Rattle.std.proofs.Common.{◌↔◌, IsTrue, subst, sym}
use Rattle.spec_core.specs.Code.{program_of}
use Rattle.rule_model.specs.Legal.{IsAgreed}
use Rattle.log_states.specs.Views.{state_at}
use Rattle.log_states.proofs.state.SessionState.agrees.Goals as goal

pub returns-in-Some : goal.returns-in-Some
returns-in-Some c b =
    subst (λ by. IsTrue c.takes.result ↔ IsAgreed (program_of c.args.checked.now) (state_at b c.args.self.now) c.args.action.now by)
    (sym c.in-Some.is) (c.takes.ensures b)
