use Rattle.std.proofs.Common.{◌∙◌, refl, sym}
use Rattle.std.proofs.lemmas.Bool.{true≢false}
use Rattle.log_states.proofs.state.SessionState.leave.Goals as goal

pub returns-in_ok-put_leave-clause-left : goal.returns-in_ok-put_leave-clause-left
returns-in_ok-put_leave-clause-left c so b = ((c.is_free.ensures b).0 c.if-is_free.true, c.in_ok-put_leave.ensures.left b)

pub returns-else-is_free-clause-refused : goal.returns-else-is_free-clause-refused
returns-else-is_free-clause-refused c not b = (λ m. absurd (true≢false (sym ((c.is_free.ensures b).1 m) ∙ c.if-is_free.false)), refl)
