-- When there is one session. (This profile.)
use Rattle.std.specs.Prelude.{◌≡◌, ◌++◌, List}
use Rattle.run_settings.specs.declared.settings.Settings.{Settings}
use Rattle.spec_core.specs.Code.{Program}
use Rattle.rule_model.specs.declared.reply.LimitKind.{LimitKind}
use Rattle.rule_model.specs.declared.reply.LimitKind.TheVariants.{Steps, Spread, Offers}
use Rattle.rule_model.specs.Behaviours.{Behaviour}
use Rattle.rule_model.specs.Code.{IsStart}
use Rattle.rule_model.specs.Events.{Event, Ending, exits, deadlocked, waiting, ends_beyond, ends_spent, ends_too_large, ends_at_limit}
use Rattle.rule_model.specs.Legal.{IsDerivation}
use Rattle.rule_model.specs.Wishes.{Wish}
use Rattle.rule_model.specs.States.{State, start_state}
use Rattle.log_states.specs.Clients.{numbers_from}
use Rattle.board_laws.specs.declared.stop_reason.StopReason.{StopReason}
use Rattle.board_laws.specs.declared.stop_reason.StopReason.TheVariants.{Limit}
use Rattle.board_laws.specs.Reasons.{IsReasonToStop}
use Rattle.client_laws.specs.Runs.{clients_for}

abbrev pub IsOfSteps : LimitKind → Type 0
IsOfSteps Steps = Unit {0}
IsOfSteps Spread = ⊥
IsOfSteps Offers = ⊥

-- the session wasn't stopped, or only because there were as many actions as are allowed
abbrev pub IsUnstoppedButBySteps : Ending → Type 0
IsUnstoppedButBySteps exits = Unit {0}
IsUnstoppedButBySteps deadlocked = Unit {0}
IsUnstoppedButBySteps waiting = Unit {0}
IsUnstoppedButBySteps ends_beyond = Unit {0}
IsUnstoppedButBySteps (ends_spent term) = ⊥
IsUnstoppedButBySteps (ends_too_large term) = ⊥
IsUnstoppedButBySteps (ends_at_limit kind) = IsOfSteps kind

-- in no state to which a part of the log leads is a reason to stop so, but that there were as many actions as are allowed
abbrev pub OnlyStepsStop : Program → Settings → List Wish → List Event → Type 0
OnlyStepsStop program settings wishes log =
    (behaviour : Behaviour) →
    IsStart program behaviour →
    (before after : List Event) →
    log ≡ before ++ after →
    (s : State) →
    IsDerivation program before (start_state behaviour (numbers_from 1 (clients_for wishes))) s →
    (reason : StopReason) →
    IsReasonToStop program settings s reason →
    reason ≡ Limit Steps
