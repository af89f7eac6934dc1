use Rattle.std.proofs.Common.{◌≡◌, sym, subst, map, arith, rules}
use Rattle.std.specs.Prelude.{Contains}
use Rattle.std.specs.List.{range_with_len}
use Rattle.turn_lock.proofs.Rows.{range_contains}
use Rattle.thread_tests.proofs.turns.two_seats_take_turns_over_one_list.Goals as goal

pub close-tally-requires-clause-complete : goal.close-tally-requires-clause-complete
close-tally-requires-clause-complete g c n below =
    let two : c.expect-lock.result.0.seats ≡ 2 = search rules in
    let numbers : map (λ s. s.number) c.expect-row.result.items ≡ range_with_len 0 2 = search rules in
    subst (λ l. Contains l n) (sym numbers) (range_contains 2 n (omega arith))
