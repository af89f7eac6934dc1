use Rattle.std.proofs.Common.{◌∙◌, sym}
use Rattle.std.proofs.lemmas.Bool.{true≢false}
use Rattle.log_states.proofs.Entries.{may_leave, leave_opens, leave_idles}
use Rattle.log_states.proofs.state.SessionState.is_free.Goals as goal

pub returns-then-finds_open : goal.returns-then-finds_open
returns-then-finds_open c b = (
  λ h. may_leave b c.args.self.now c.args.client (sym c.finds_open.ensures ∙ c.if-finds_open.true) (sym c.finds_none.ensures ∙ h),
  λ m. c.finds_none.ensures ∙ leave_idles b c.args.self.now c.args.client m,
)

pub returns-else-finds_open : goal.returns-else-finds_open
returns-else-finds_open c b =
    (λ h. absurd (true≢false (sym h ∙ c.if-finds_open.false)), λ m. c.finds_open.ensures ∙ leave_opens b c.args.self.now c.args.client m)
