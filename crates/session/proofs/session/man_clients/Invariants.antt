use Rattle.std.proofs.Common.{◌≡◌, ◌≤◌, ◌+◌, ◌++◌, length, map, vec_len}
use Rattle.session.specs.Starting.{AreFresh, pass_of}
use Rattle.session.proofs.session.man_clients.Given as goal

abbrev pub invariant-loop-client : goal.invariant-loop-client
invariant-loop-client l = record {
  fresh : AreFresh l.client l.seats.items;
  few : l.client + length l.seats.items ≤ 64;
  passes : l.passes.items ++ map pass_of l.seats.items ≡ map pass_of l.fn.seats.items;
}

abbrev pub decreases-loop-client : goal.decreases-loop-client
decreases-loop-client l = vec_len l.seats
