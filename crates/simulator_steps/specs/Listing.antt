-- What a look for steps comes to. (This profile.)
use Rattle.std.specs.Prelude.{ℕ, ◌≡◌, ◌⊎◌, Some, None}
use Rattle.rule_model.specs.Answers.{Answer, answer_of}
use Rattle.board_laws.specs.declared.stop_reason.StopReason.{StopReason}
use Rattle.board_laws.specs.Reasons.{IsReasonToStop}
use Rattle.board_laws.specs.Stopping.{answer_by}
use Rattle.board_core.specs.Views.{BoardView, program, state, tree}
use Rattle.board_lists.specs.Listings.{IsListing}
use Rattle.simulator_steps.specs.declared.listing.Looked.{Looked}
use Rattle.simulator_steps.specs.declared.listing.Looked.TheVariants.{Steps, Stopped}

-- the answer tells the reason that has stopped the session: it had stopped it before, or it is so
pub record TellsReason (old new : BoardView) (answer : Answer) : Type 0 where
  pub reason : StopReason
  pub stopped : new.stop ≡ Some reason
  pub answer_is : answer ≡ answer_by (state new).actions reason
  pub why : (old.stop ≡ Some reason) ⊎ ((old.stop ≡ None) × IsReasonToStop (program new) new.settings (state new) reason)

-- the first steps are listed; or the session has stopped
abbrev pub ComesOfLook : BoardView → BoardView → ℕ → Looked → Type 0
ComesOfLook old new most (Steps listing) =
    (old.stop ≡ None) × (new.stop ≡ None) × IsListing (program new) new.settings (state new) (tree new) most listing
ComesOfLook old new most (Stopped reply) = TellsReason old new (answer_of reply)
