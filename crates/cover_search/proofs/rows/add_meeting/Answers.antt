use Rattle.std.proofs.Common.{inl, inr, refl}
use Rattle.spec_core.proofs.Lists.{untrue}
use Rattle.cover_search.proofs.rows.add_meeting.Goals as goal

pub returns-then-not-meets : goal.returns-then-not-meets
returns-then-not-meets c = inr ((λ m. untrue (c.if-not-meets.ensures.1 m)), refl)

pub returns : goal.returns
returns c = inl (c.meets.ensures.0 c.if-not-meets.false, c.in_ok-push.ensures.items)
