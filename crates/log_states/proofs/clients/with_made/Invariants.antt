use Rattle.std.specs.Prelude.{◌≡◌, map, take}
use Rattle.log_states.specs.Clients as clients
use Rattle.log_states.proofs.clients.with_made.Given as goal

abbrev pub invariant-loop-client : goal.invariant-loop-client
invariant-loop-client l = l.left.items ≡ map (clients.having_made l.number l.count) (take l.client-index l.all)
