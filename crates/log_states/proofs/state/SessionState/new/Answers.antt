use Rattle.std.proofs.Common.{rules, refl, None}
use Rattle.log_states.proofs.Entries.{starts}
use Rattle.log_states.proofs.state.SessionState.new.Goals as goal

pub returns : goal.returns
returns c = record {
  start = λ b. starts (record { clients = c.in_ok-new_clients.field-0; pending = c.new.result; actions = 0; last = None }) b c.args.clients
      (search rules) (search rules) refl refl;
}
