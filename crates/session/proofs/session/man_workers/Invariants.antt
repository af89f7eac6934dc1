use Rattle.std.proofs.Common.{◌≡◌, ◌++◌, false, map, vec_len}
use Rattle.std.specs.List.{AllByRecursion}
use Rattle.session.specs.Starting.{work_pass_of}
use Rattle.session.proofs.session.man_workers.Given as goal

abbrev pub invariant-loop-seats : goal.invariant-loop-seats
invariant-loop-seats l = record {
  rest : AllByRecursion (λ seat. seat.holds_turn ≡ false) l.seats.items;
  passes : l.passes.items ++ map (work_pass_of l.clients) l.seats.items ≡ map (work_pass_of l.clients) l.fn.seats.items;
}

abbrev pub decreases-loop-seats : goal.decreases-loop-seats
decreases-loop-seats l = vec_len l.seats
