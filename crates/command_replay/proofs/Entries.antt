-- An entry that isn't possible is one of the log.
use Rattle.std.proofs.Common.{ℕ, ◌≤◌, List, ◌∷◌, ap, arith, length, length-append}
use Rattle.spec_core.specs.Code.{Program}
use Rattle.rule_model.specs.Events.{Event}
use Rattle.log_check.specs.Checked.{EndsAt}

pub within_log : (program : Program) (log : List Event) (entry : ℕ) → EndsAt program log entry → entry ≤ length log
within_log program log entry h =
    let k = length-append h.comes.before (h.event ∷ h.comes.after) in
    omega (arith, ap length h.comes.all, h.comes.place, k)
