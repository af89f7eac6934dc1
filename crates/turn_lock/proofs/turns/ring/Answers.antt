use Rattle.std.proofs.Common.{arith}
use Rattle.turn_lock.proofs.TurnSteps.{ring_keeps_rule}
use Rattle.turn_lock.proofs.turns.ring.Goals as goal

pub fetch_add-requires : goal.fetch_add-requires
fetch_add-requires g c = (
  c.requires.table.0,
  omega arith,
  ring_keeps_rule g.T.Standing.list g.T.Standing.fixed g.T.Standing.maker _ _ _ _ _ _ (omega arith),
)
