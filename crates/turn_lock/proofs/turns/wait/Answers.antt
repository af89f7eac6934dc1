use Rattle.std.proofs.Common.{ap, ◌∙◌, arith}
use Rattle.turn_lock.proofs.TurnSteps.{look_keeps_rule}
use Rattle.turn_lock.proofs.turns.wait.Goals as goal

pub load-requires : goal.load-requires
load-requires g c = let same = c.loop.invariant in let drawn = c.requires.drawn in (
  same.0 ∙ c.requires.table.0,
  omega arith,
  look_keeps_rule g.T.Standing.list g.T.Standing.fixed g.T.Standing.maker _ _ _ _ c.args.ticket _ _ _ c.requires.made_with.0
      c.requires.made_with.1 (ap (λ m. m.0.phase) same.1 ∙ drawn.0) (ap (λ m. m.0.spent) same.1 ∙ drawn.1),
)
