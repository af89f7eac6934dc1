use Rattle.std.proofs.Common.{◌∙◌, sym, map}
use Rattle.log_states.specs.Views.{pending_of}
use Rattle.log_states.proofs.Entries.{has_pending}
use Rattle.log_states.proofs.Waiting.{idle, is_idle}
use Rattle.log_states.proofs.state.SessionState.is_idle.Goals as goal

pub returns : goal.returns
returns c =
    let waiting = map pending_of c.args.self.now.pending.items in
    record {
      idle = (λ h. idle waiting c.args.client (sym c.finds_none.ensures ∙ h), λ m. c.finds_none.ensures ∙ is_idle waiting c.args.client m);
      waits = λ b h. has_pending b c.args.self.now c.args.client (sym c.finds_none.ensures ∙ h);
    }
