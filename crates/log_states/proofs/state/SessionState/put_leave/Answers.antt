use Rattle.std.proofs.Common.{rules, refl}
use Rattle.log_states.proofs.Entries.{has_left}
use Rattle.log_states.proofs.state.SessionState.put_leave.Goals as goal

pub returns-clause-left : goal.returns-clause-left
returns-clause-left c b =
    let s = c.args.self.now in
    has_left b s (record { clients = c.in_ok-self.field-0; pending = s.pending; actions = s.actions; last = s.last }) c.args.client
    (search rules) refl refl refl
