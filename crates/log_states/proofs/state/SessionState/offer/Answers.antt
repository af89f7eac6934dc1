use Rattle.std.proofs.Common.{◌∙◌, refl, sym}
use Rattle.std.proofs.lemmas.Bool.{true≢false}
use Rattle.rule_model.specs.Behaviours.{stop}
use Rattle.log_states.proofs.state.SessionState.offer.Goals as goal

pub put_offer-requires-clause-open : goal.put_offer-requires-clause-open
put_offer-requires-clause-open c = ((c.may_offer.ensures stop).0 c.if-may_offer.true).is_open

pub put_offer-requires-clause-next : goal.put_offer-requires-clause-next
put_offer-requires-clause-next c = ((c.may_offer.ensures stop).0 c.if-may_offer.true).next

pub returns-in_ok-put_offer-clause-made : goal.returns-in_ok-put_offer-clause-made
returns-in_ok-put_offer-clause-made c so b = ((c.may_offer.ensures b).0 c.if-may_offer.true, c.in_ok-put_offer.ensures.made b)

pub returns-else-may_offer-clause-refused : goal.returns-else-may_offer-clause-refused
returns-else-may_offer-clause-refused c not b = (λ m. absurd (true≢false (sym ((c.may_offer.ensures b).1 m) ∙ c.if-may_offer.false)), refl)
