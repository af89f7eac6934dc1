use Rattle.std.proofs.Common.{◌≡◌, sym, ap, ◌∙◌, [], ◌∷◌, Some, rules}
use Rattle.atomic_table.specs.Table.{rest}
use Rattle.turn_lock.specs.Entries.{made_by}
use Rattle.turn_lock.specs.Steps.{with_lists}
use Rattle.turn_lock.specs.declared.rule.Phase.TheVariants.{Published}
use Rattle.turn_lock.proofs.TurnSteps.{pass_keeps_rule}
use Rattle.turn_lock.proofs.turns.Turns.give.Goals as goal

pub fetch_add-served-requires : goal.fetch_add-served-requires
fetch_add-served-requires g c =
    let turn = c.seat.invariant.1 (ap (λ s. s.holds_turn) c.seat.view_is ∙ c.requires.turn) in
    let v = c.seat.inside.place.me.0 in let x = c.args.held.value in let t = turn.0.0 in
    let w = with_lists v (Published t) (g.T.Standing.list x) (made_by g.T.Standing.maker v.account.number (g.T.Standing.list x)) in
    let after = c.publish.ensures.list t turn.0.1 in
    let full : c.exchange-left.new.seat.me ≡ (w, (0, Some x) ∷ []) =
    c.exchange-left.ensures.3
    ∙ (λ i. ((after i).0, (0, Some x) ∷ rest (after i).1))
    ∙ (λ i. (w, (0, Some x) ∷ rest (turn.2 i))) in (
      search rules,
      search rules,
      pass_keeps_rule g.T.Standing.list g.T.Standing.fixed g.T.Standing.maker _ _ _ _ t x _ (ap (λ m. m.0.phase) full)
          (ap (λ m. m.0.spent) full ∙ turn.1) (ap (λ m. m.1) full) (sym (ap (λ m. m.0.account.seen) full))
          (c.requires.fixed ∙ sym (ap (λ l. l.fixed) c.self.view_is)),
    )
