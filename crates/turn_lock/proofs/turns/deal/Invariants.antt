use Rattle.std.proofs.Common.{◌≡◌, ◌-◌, ◌≤◌, [], map}
use Rattle.std.specs.List.{range_with_len}
use Rattle.turn_lock.specs.Seats.{new_seat}
use Rattle.turn_lock.specs.Rule.{first_view}
use Rattle.turn_lock.proofs.turns.deal.Given as goal

abbrev pub invariant-loop-number : goal.invariant-loop-number
invariant-loop-number g l = let T = g.T.Standing in let opened = l.top.key.value.value in
    (l.first.table_id ≡ l.fn.first.table_id)
    × (l.first.me ≡ (record (first_view T.list T.fixed T.maker opened l.count) { next = l._number }, []))
    × (1 ≤ l._number)
    × (l.row.items ≡ map (new_seat T.maker l.top.table_id (T.list opened)) (range_with_len 1 (l._number - 1)))
