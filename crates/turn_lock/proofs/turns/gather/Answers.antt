use Rattle.std.proofs.Common.{ap, sym, ◌∙◌, subst, arith, length, ◌++◌, ◌∷◌, [], drop, append_assoc, inl}
use Rattle.std.specs.List.{AllByRecursion}
use Rattle.turn_lock.specs.Seats.{IsAtRest}
use Rattle.turn_lock.specs.Rule.{accounts_of}
use Rattle.turn_lock.specs.Closing.{account_of, AllNoted}
use Rattle.turn_lock.proofs.EntryLists.{begins_on}
use Rattle.turn_lock.proofs.SeatSteps.{join_keeps_rule}
use Rattle.turn_lock.proofs.Rows.{all_but_last, all_noted_more}
use Rattle.turn_lock.proofs.turns.gather.Goals as goal

pub join_seat-requires : goal.join_seat-requires
join_seat-requires g c =
    let kept = c.loop-seat.invariant in
    let row =
    all_but_last (IsAtRest c.args.top.now.table_id) _ _
    (subst (λ l. AllByRecursion (IsAtRest c.args.top.now.table_id) l) c.in-Some.ensures.items kept.3) in
    let rests = c.seat.invariant.0 (ap (λ s. s.holds_turn) c.seat.view_is ∙ row.1.1) in (
      kept.0 ∙ c.requires.table.0,
      ap (λ s. s.lock) c.seat.view_is ∙ row.1.0,
      rests.2,
      omega arith,
      join_keeps_rule g.T.Standing.list g.T.Standing.fixed g.T.Standing.maker _ _ _ _ _ _ kept.1.0 kept.1.1 rests.0 rests.1,
    )

pub loop-seat-preserved : goal.loop-seat-preserved
loop-seat-preserved g c = let kept = c.loop-seat.invariant in let items = c.in-Some.ensures.items in
    let row =
    all_but_last (IsAtRest c.args.top.now.table_id) _ _
    (subst (λ l. AllByRecursion (IsAtRest c.args.top.now.table_id) l) items kept.3) in
    let joins = c.join_seat.ensures in
    let me = joins.2 in
    let v = c.loop-seat.place.me.0 in let w = c.seat.inside.place.me.0 in let seat = c.in-Some.seat in let done = kept.4.0 in (
      joins.0 ∙ kept.0,
      (ap (λ m. m.0.phase) me ∙ kept.1.0, ap (λ m. m.0.spent) me ∙ kept.1.1, ap (λ m. m.1) me ∙ kept.1.2),
      (
        ap (λ m. m.0.account.number) me ∙ kept.2.0,
        ap (λ m. m.0.account.own) me ∙ kept.2.1,
        begins_on c.args.place.me.0.account.seen v.account.seen c.join_seat.new.seat.me.0.account.seen kept.2.2
            (drop (length v.account.seen) w.account.seen, ap (λ m. m.0.account.seen) me),
      ),
      row.0,
      (
        seat ∷ done,
        kept.4.1 ∙ (ap (λ l. l ++ done) items ∙ append_assoc _ (seat ∷ []) done),
        subst (λ m. AllNoted m.0.joined (seat ∷ done)) (sym me)
            (inl (ap account_of c.seat.view_is), all_noted_more (accounts_of w) v.joined done kept.4.2),
      ),
    )
