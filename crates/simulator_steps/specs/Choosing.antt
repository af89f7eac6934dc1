-- What a step that is chosen comes to. (This profile.)
use Rattle.std.specs.Prelude.{ℕ, ◌-◌, ◌≡◌, ◌⊎◌, ◌<◌, ◌≤◌, ◌++◌, ◌∷◌, [], List, Option, Some, None, map, false, length}
use Rattle.std.specs.List.{slice_get}
use Rattle.rule_model.specs.declared.action.Action.{Action}
use Rattle.rule_model.specs.declared.action.Action.TheVariants.{Inner, Exit, At}
use Rattle.rule_model.specs.declared.offer.Field.TheVariants.{Give}
use Rattle.rule_model.specs.declared.reply.LimitKind.TheVariants.{Steps}
use Rattle.rule_model.specs.Answers.{Answer, answer_of, limit}
use Rattle.rule_model.specs.Derivations.{Derivation}
use Rattle.rule_model.specs.Events.{Event, OfferName, pended, acted}
use Rattle.decision_trees.specs.Rules.{any}
use Rattle.board_core.specs.Views.{BoardView, events, program, state, SameLog}
use Rattle.board_lists.specs.Listings.{HoldsOfTrees}
use Rattle.simulator_steps.specs.declared.choosing.Chosen.{Chosen}
use Rattle.simulator_steps.specs.declared.choosing.Chosen.TheVariants.{Done, Told, Missing}
use Rattle.simulator_steps.specs.Listing.{TellsReason}

-- Before its action, an action that is seen is offered with just its values.
abbrev pub offered_before : Action → ℕ → List Event
offered_before Inner number = []
offered_before (Exit values) number = []
offered_before (At gate values) number = pended 1 number (record { gate = gate; fields = map Give values }) false ∷ []

-- the offer that an action takes
abbrev pub taken_by : Action → ℕ → Option OfferName
taken_by Inner number = None
taken_by (Exit values) number = None
taken_by (At gate values) number = Some (1, number)

-- The action of this tree is done, where no reason had stopped the session, and there were fewer actions than are allowed. If it is seen, it
-- is offered just before.
pub record IsDoneBy (old new : BoardView) (tree : Derivation) (action : Action) : Type 0 where
  pub running : old.stop ≡ None
  pub still : new.stop ≡ None
  pub below : (state old).actions < old.settings.steps
  pub offer : ℕ
  pub log : events new ≡ events old ++ offered_before action offer ++ acted action tree (taken_by action offer) ∷ []

-- the tree is that of the step with this number, counted from 1
pub record IsDone (old new : BoardView) (number : ℕ) (action : Action) : Type 0 where
  pub tree : Derivation
  pub numbered : HoldsOfTrees (program old) old.settings (state old) any (λ all. slice_get all (number - 1) ≡ Some tree)
  pub by : IsDoneBy old new tree action

-- there were as many actions as are allowed
abbrev pub IsAtSteps : BoardView → BoardView → Answer → Type 0
IsAtSteps old new answer =
    (old.stop ≡ None) × (new.stop ≡ None) × (new.settings.steps ≤ (state new).actions) × (answer ≡ limit (state new).actions Steps)

-- the step with this number among these trees is done; or there were as many actions as are allowed; or there are fewer trees
abbrev pub ComesOfNumber : BoardView → BoardView → List Derivation → ℕ → Chosen → Type 0
ComesOfNumber old new trees number (Done action) = (tree : Derivation) × (slice_get trees (number - 1) ≡ Some tree) × IsDoneBy old new tree action
ComesOfNumber old new trees number (Told reply) = SameLog old new × IsAtSteps old new (answer_of reply)
ComesOfNumber old new trees number Missing = SameLog old new × (length trees < number)

-- the step is done; or there were as many actions as are allowed, or the session has stopped; or there are fewer steps
abbrev pub ComesOfChoice : BoardView → BoardView → ℕ → Chosen → Type 0
ComesOfChoice old new number (Done action) = IsDone old new number action
ComesOfChoice old new number (Told reply) = SameLog old new × (TellsReason old new (answer_of reply) ⊎ IsAtSteps old new (answer_of reply))
ComesOfChoice old new number Missing =
    SameLog old new × HoldsOfTrees (program old) old.settings (state old) any (λ all. length all < number)
