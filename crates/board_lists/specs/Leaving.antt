-- What stays while the trees of a board's behaviour are looked for. (This profile.)
use Rattle.std.specs.Prelude.{◌≡◌, ◌⊎◌, Some}
use Rattle.rule_model.specs.declared.reply.LimitKind.TheVariants.{Steps}
use Rattle.board_laws.specs.declared.stop_reason.StopReason.{StopReason}
use Rattle.board_laws.specs.declared.stop_reason.StopReason.TheVariants.{Limit}
use Rattle.board_laws.specs.Reasons.{IsReasonToStop}
use Rattle.board_core.specs.Views.{BoardView, program, state, SameLog, SameSession}

-- a reason that is so has stopped the session
abbrev pub IsStoppedRightly : BoardView → Type 0
IsStoppedRightly v = (reason : StopReason) × (v.stop ≡ Some reason) × IsReasonToStop (program v) v.settings (state v) reason

-- no limit of the number of actions has stopped the session
abbrev pub IsNotStoppedBySteps : BoardView → Type 0
IsNotStoppedBySteps v = v.stop ≡ Some (Limit Steps) → ⊥

-- the session has the log and the state that it had; where it hasn't stopped for a reason that is so, nothing has stopped it
pub record OnlyLooks (old new : BoardView) : Type 0 where
  pub session : SameSession old new
  pub log : SameLog old new
  pub stop : (new.stop ≡ old.stop) ⊎ IsStoppedRightly new
