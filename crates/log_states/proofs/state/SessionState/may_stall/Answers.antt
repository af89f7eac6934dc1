use Rattle.std.proofs.Common.{rules}
use Rattle.log_states.proofs.state.SessionState.may_stall.Goals as goal

pub returns-then-not-is_empty : goal.returns-then-not-is_empty
returns-then-not-is_empty c b =
    (λ h. record { some = search rules; all = (c.are_named.ensures b).0 h }, λ m. (c.are_named.ensures b).1 m.all)
