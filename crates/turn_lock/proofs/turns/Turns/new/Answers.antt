use Rattle.std.proofs.Common.{rules, ◌≡◌, ℕ, sym, ap, subst, ◌∙◌, [], ◌∷◌, length, replicate, Some, arith}
use Rattle.atomic_table.specs.Table.{opening}
use Rattle.turn_lock.specs.declared.turns.TheConstants.{BELLS}
use Rattle.turn_lock.specs.Seats.{SeatModel, new_seat, new_seats}
use Rattle.turn_lock.specs.Steps.{is_in_turn}
use Rattle.turn_lock.specs.Rule.{KeepsRule, first_view}
use Rattle.turn_lock.proofs.SeatSteps.{opening_keeps_rule}
use Rattle.turn_lock.proofs.Rows.{map_range_first}
use Rattle.turn_lock.proofs.turns.Turns.new.Goals as goal

pub new-requires : goal.new-requires
new-requires g c =
    let L = g.T.Standing.list in
    let F = g.T.Standing.fixed in let M = g.T.Standing.maker in let seats : ℕ = c.from.result in let opened = c.of.result.value in
    let items : c.push.new.self.items ≡ Some opened ∷ [] = search rules in
    let len : ℕ = c.length.result in
    let size : len ≡ length (L opened) = search rules in
    let count : seats ≡ c.args.seats = search rules in
    subst (λ l. KeepsRule L F M opened seats (opening (0 ∷ 0 ∷ len ∷ replicate BELLS 0) l (first_view L F M opened seats))) (sym items)
    (opening_keeps_rule L F M opened seats len (replicate BELLS 0) size (omega (arith, c.requires.some_seat)) (search rules))

pub returns-clause-seats : goal.returns-clause-seats
returns-clause-seats g c =
    let M = g.T.Standing.maker in let id = c.in-Ok.table.shared.table_id in let opened = c.in-Ok.table.shared.key.value.value in
    let opened_is : opened ≡ c.args.value = search rules in let same_lock : c.in-Ok.first.table_id ≡ id = search rules in
    let f = new_seat M id (g.T.Standing.list opened) in let dealt = c.in_ok-deal.ensures.first in let place = c.deal.new.first in
    let first : ◌≡◌ {A = SeatModel _} (record {
      lock = place.table_id;
      number = place.me.0.account.number;
      seen = place.me.0.account.seen;
      own = place.me.0.account.own;
      holds_turn = is_in_turn place.me.0.phase;
    }) (f 0) =
    λ i.
    record {
      lock = (dealt.0 ∙ same_lock) i;
      number = (dealt.1 i).0.account.number;
      seen = (dealt.1 i).0.account.seen;
      own = (dealt.1 i).0.account.own;
      holds_turn = is_in_turn (dealt.1 i).0.phase;
    } in
    c.in_ok-insert.ensures.items
    ∙ ((λ i. first i ∷ c.in_ok-deal.ensures.row i)
    ∙ (map_range_first f 0 c.args.seats c.requires.some_seat ∙ ap (λ v. new_seats M id (g.T.Standing.list v) c.args.seats) opened_is))
