use Rattle.std.proofs.Common.{sym, ap, subst, ◌∙◌, arith, length}
use Rattle.turn_lock.specs.Entries.{Continues}
use Rattle.turn_lock.proofs.TurnSteps.{publish_keeps_rule}
use Rattle.turn_lock.proofs.turns.publish.Goals as goal

pub store-requires : goal.store-requires
store-requires g c = let turn = c.requires.turn in let same = c.requires.list.0 in let account = c.args.place.now.me.0.account in (
  c.requires.table.0,
  omega arith,
  publish_keeps_rule g.T.Standing.list g.T.Standing.fixed g.T.Standing.maker _ _ _ _ turn.0.0 _ g.J.Publishes.given _ turn.0.1 turn.1
      (c.length.ensures ∙ ap length (sym same))
      (subst (λ l. Continues g.T.Standing.maker account.number account.seen l) (sym same) c.requires.list.1),
)
