use Rattle.std.proofs.Common.{◌≡◌, ◌++◌, vec_len}
use Rattle.std.specs.List.{AllByRecursion}
use Rattle.turn_lock.specs.Entries.{Begins}
use Rattle.turn_lock.specs.Seats.{IsAtRest}
use Rattle.turn_lock.specs.Steps.{IsResting}
use Rattle.turn_lock.specs.Closing.{AllNoted}
use Rattle.turn_lock.proofs.turns.gather.Given as goal

abbrev pub invariant-loop-seat : goal.invariant-loop-seat
invariant-loop-seat g l = (l.place.table_id ≡ l.fn.place.table_id) × IsResting l.place
    × ((l.place.me.0.account.number ≡ l.fn.place.me.0.account.number) × (l.place.me.0.account.own ≡ l.fn.place.me.0.account.own) ×
    Begins l.fn.place.me.0.account.seen l.place.me.0.account.seen)
    × AllByRecursion (IsAtRest l.top.table_id) l.seats.items
    × ((done : _) × (l.fn.seats.items ≡ l.seats.items ++ done) × AllNoted l.place.me.0.joined done)

abbrev pub decreases-loop-seat : goal.decreases-loop-seat
decreases-loop-seat g l = vec_len l.seats
