use Rattle.spec_core.specs.Theories.{theory_of}
use Rattle.session_tests.proofs.calls.a_client_that_has_left_makes_no_call.Goals as goal

pub offer-requires-clause-values : goal.offer-requires-clause-values
offer-requires-clause-values g c = c.at-offer.ensures (theory_of c.expect-session.result.0.lock.fixed.checked.algebra)

pub ask-requires-clause-values : goal.ask-requires-clause-values
ask-requires-clause-values g c = c.at-offer.ensures (theory_of c.expect-session.result.0.lock.fixed.checked.algebra)

pub offer-requires-2-clause-values : goal.offer-requires-2-clause-values
offer-requires-2-clause-values g c = c.at-none.ensures (theory_of c.expect-session.result.0.lock.fixed.checked.algebra)

pub offer-requires-3-clause-values : goal.offer-requires-3-clause-values
offer-requires-3-clause-values g c = c.at-offer.ensures (theory_of c.expect-session.result.0.lock.fixed.checked.algebra)

pub ask-requires-2-clause-values : goal.ask-requires-2-clause-values
ask-requires-2-clause-values g c = c.at-none.ensures (theory_of c.expect-session.result.0.lock.fixed.checked.algebra)
