use Rattle.std.proofs.Common.{rules, refl}
use Rattle.log_states.proofs.Entries.{offered}
use Rattle.log_states.proofs.state.SessionState.put_offer.Goals as goal

pub returns-clause-made : goal.returns-clause-made
returns-clause-made c b =
    let s = c.args.self.now in
    offered b s (record { clients = c.in_ok-clients.clients; pending = c.add.new.all; actions = s.actions; last = s.last }) c.args.client
    c.args.number c.args.offer.now c.args.ask c.requires.open c.requires.next (search rules) (search rules) refl refl
