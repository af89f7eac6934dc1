use Rattle.std.proofs.Common.{◌∙◌, sym}
use Rattle.log_states.proofs.Entries.{each_waits, waits_each}
use Rattle.log_states.proofs.state.SessionState.all_wait.Goals as goal

pub returns : goal.returns
returns c b = (λ h. each_waits b c.args.self.now (sym c.finds_all.ensures ∙ h), λ m. c.finds_all.ensures ∙ waits_each b c.args.self.now m)
