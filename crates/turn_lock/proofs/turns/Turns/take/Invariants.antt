use Rattle.std.proofs.Common.{Some}
use Rattle.turn_lock.proofs.turns.Turns.take.Given as goal

abbrev pub ghosts-wait : goal.ghosts-wait
ghosts-wait g a = record { fixed_part = Some (g.T.Standing.fixed a.top.now.key.value.value); seats = a.top.now.key.seats }
