use Rattle.std.proofs.Common.{◌∙◌, sym}
use Rattle.log_states.proofs.OpenClients.{is_open, open_is}
use Rattle.log_states.proofs.state.SessionState.is_open.Goals as goal

pub returns : goal.returns
returns c =
    let clients = c.args.self.now.clients.items in
    (λ h. is_open clients c.args.client (sym c.finds_open.ensures ∙ h), λ m. c.finds_open.ensures ∙ open_is clients c.args.client m)
