use Rattle.rule_model.specs.Meets.{Meets}
use Rattle.spec_core.specs.Code.{program_of}
use Rattle.log_states.proofs.Entries.{takes_pending, pending_takes}
use Rattle.log_states.proofs.state.SessionState.takes.Goals as goal

pub returns : goal.returns
returns c b = (
  λ h. takes_pending b c.args.self.now (Meets (program_of c.args.checked.now).theory c.args.action.now) c.args.client c.args.number (c.has_taker.ensures.0 h),
  λ m. c.has_taker.ensures.1 (pending_takes b c.args.self.now (Meets (program_of c.args.checked.now).theory c.args.action.now) c.args.client c.args.number m),
)
