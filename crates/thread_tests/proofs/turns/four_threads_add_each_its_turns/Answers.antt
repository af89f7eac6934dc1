use Rattle.std.proofs.Common.{◌≡◌, length, arith, rules}
use Rattle.turn_lock.proofs.Rows.{row_contains}
use Rattle.thread_tests.proofs.turns.four_threads_add_each_its_turns.Goals as goal

pub close-tally-requires-clause-complete : goal.close-tally-requires-clause-complete
close-tally-requires-clause-complete g c n below =
    let four : c.expect-lock.result.0.seats ≡ 4 = search rules in
    let size : length c.add_in_threads.new.seats.items ≡ 4 = search rules in
    row_contains c.add_in_threads.new.seats.items (λ i s inside is. (c.add_in_threads.ensures.each i s inside is).1) n (omega arith)
