use Rattle.std.proofs.Common.{◌≡◌, ap, ◌∙◌, arith, ◌++◌, ◌∷◌, []}
use Rattle.turn_lock.specs.Seats.{SeatModel, new_seat}
use Rattle.turn_lock.specs.Steps.{after_split, new_view, is_in_turn}
use Rattle.turn_lock.proofs.SeatSteps.{split_keeps_rule}
use Rattle.turn_lock.proofs.Rows.{map_range_next}
use Rattle.turn_lock.proofs.turns.deal.Goals as goal

pub split_seat-place-requires : goal.split_seat-place-requires
split_seat-place-requires g c =
    let kept = c.loop-number.invariant in
    let me = kept.1 in
    let next = ap (λ m. m.0.next) me in let seats = ap (λ m. m.0.origin.seats) me in let below = c.loop-number-test.true in (
      kept.0 ∙ c.requires.table.0,
      omega arith,
      split_keeps_rule g.T.Standing.list g.T.Standing.fixed g.T.Standing.maker _ _ _ _ (ap (λ m. m.0.phase) me) (ap (λ m. m.0.spent) me)
          (ap (λ m. m.0.is_first) me) (omega arith),
    )

pub loop-number-preserved : goal.loop-number-preserved
loop-number-preserved g c = let M = g.T.Standing.maker in let kept = c.loop-number.invariant in let split = c.split_seat-place.ensures in
    let f = new_seat M c.args.top.now.table_id (g.T.Standing.list c.args.top.now.key.value.value) in
    let lock = split.3 ∙ (kept.0 ∙ c.requires.table.0) in let new = split.4 ∙ ap (λ m. (new_view M m.0, [])) kept.1 in
    let seat : ◌≡◌ {A = SeatModel _} (record {
      lock = c.split_seat-place.result.table_id;
      number = c.split_seat-place.result.me.0.account.number;
      seen = c.split_seat-place.result.me.0.account.seen;
      own = c.split_seat-place.result.me.0.account.own;
      holds_turn = is_in_turn c.split_seat-place.result.me.0.phase;
    }) (f c.loop-number._number) =
    λ i.
    record {
      lock = lock i;
      number = (new i).0.account.number;
      seen = (new i).0.account.seen;
      own = (new i).0.account.own;
      holds_turn = is_in_turn (new i).0.phase;
    } in (
      split.0 ∙ kept.0,
      split.2 ∙ ap (λ m. (after_split m.0, m.1)) kept.1,
      omega arith,
      c.in_ok-push.ensures.items ∙ ((λ i. kept.3 i ++ seat i ∷ []) ∙ map_range_next f c.loop-number._number kept.2),
    )
