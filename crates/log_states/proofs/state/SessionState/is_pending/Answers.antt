use Rattle.std.proofs.Common.{◌∙◌, sym}
use Rattle.log_states.proofs.Entries.{is_pending, pending_is}
use Rattle.log_states.proofs.state.SessionState.is_pending.Goals as goal

pub returns : goal.returns
returns c b =
    (λ h. is_pending b c.args.self.now c.args.client c.args.number (sym c.waits.ensures ∙ h), λ m. c.waits.ensures ∙ pending_is b c.args.self.now c.args.client c.args.number m)
