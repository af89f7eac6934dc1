use Rattle.std.proofs.Common.{sym, ap, ◌∙◌, ◌∷◌, Some, rules}
use Rattle.atomic_table.specs.Table.{rest}
use Rattle.turn_lock.proofs.turns.Turns.take.Goals as goal

pub exchange-requires : goal.exchange-requires
exchange-requires g c = let got = c.wait.ensures.value in let carried = ap (λ m. m.1) got.1 in (
  search rules,
  (Some got.0, carried ∙ ap (λ cs. (0, Some got.0) ∷ rest cs) (sym carried)),
)
