use Rattle.std.proofs.Common.{ap, ◌∙◌, arith}
use Rattle.turn_lock.proofs.TurnSteps.{draw_keeps_rule}
use Rattle.turn_lock.proofs.turns.draw.Goals as goal

pub compare_exchange-found-requires : goal.compare_exchange-found-requires
compare_exchange-found-requires g c =
    let same = c.loop.invariant in let resting = c.requires.resting in let below = c.if-ticket-lt18446744073709551615.true in (
      same.0 ∙ c.requires.table.0,
      omega arith,
      draw_keeps_rule g.T.Standing.list g.T.Standing.fixed g.T.Standing.maker _ _ _ _ c.loop.ticket _
          (ap (λ m. m.0.phase) same.1 ∙ resting.0) (ap (λ m. m.0.spent) same.1 ∙ resting.1) (omega arith),
    )
