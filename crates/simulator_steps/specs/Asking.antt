-- What an ask of the one client comes to. (This profile.)
use Rattle.std.specs.Prelude.{ℕ, ◌≡◌, ◌⊎◌, ◌++◌, ◌∷◌, [], List, Option, Some, None, true}
use Rattle.run_settings.specs.declared.settings.Settings.{Settings}
use Rattle.spec_core.specs.Code.{Program}
use Rattle.rule_model.specs.declared.action.Action.{Action}
use Rattle.rule_model.specs.declared.offer.Offer.{Offer}
use Rattle.rule_model.specs.Answers.{Answer, answer_of}
use Rattle.rule_model.specs.Derivations.{Derivation}
use Rattle.rule_model.specs.Events.{Event, pended, acted, replied}
use Rattle.rule_model.specs.States.{State, after_offer}
use Rattle.board_laws.specs.declared.stop_reason.StopReason.{StopReason}
use Rattle.board_laws.specs.Next.{IsNextEvent, IsStopReply}
use Rattle.board_laws.specs.Reasons.{IsReasonToStop}
use Rattle.board_core.specs.Settled.{HasSettled}
use Rattle.board_core.specs.Views.{BoardView, events, program, state, SameLog, SameSession}
use Rattle.board_lists.specs.Leaving.{IsStoppedRightly}
use Rattle.simulator_steps.specs.declared.asking.Answered.{Answered}
use Rattle.simulator_steps.specs.declared.asking.Answered.TheVariants.{Done, Told}

-- the one client is open, and has no offer pending
abbrev pub IsAtRest : State → Type 0
IsAtRest s = (s.open_clients ≡ 1 ∷ []) × (s.pending ≡ [])

-- Jobs are done, and nothing is appended. Where no reason had stopped the session, one that is so may have.
pub record OnlyWaits (old new : BoardView) : Type 0 where
  pub session : SameSession old new
  pub log : SameLog old new
  pub stop : (new.stop ≡ old.stop) ⊎ ((old.stop ≡ None) × IsStoppedRightly new)

-- jobs are done for the next entry, and then it is appended
pub record ComesNext (old new : BoardView) : Type 0 where
  pub ready : BoardView
  pub waits : OnlyWaits old ready
  pub settled : HasSettled ready new

-- Why an entry comes in a state, and which reason had stopped the session before it, and has behind it, if one has. It comes next by the
-- rules; or it tells the reason that has stopped the session; or it tells one that stops it now, and is so.
pub data IsWhy (program : Program) (settings : Settings) (before behind : Option StopReason) (s : State) (event : Event) : Type 0 where
  by_rules : before ≡ None → behind ≡ None → IsNextEvent program settings s event → IsWhy program settings before behind s event
  as_before : (reason : StopReason) → before ≡ Some reason → behind ≡ Some reason → IsStopReply s reason event →
      IsWhy program settings before behind s event
  by_reason : (reason : StopReason) → before ≡ None → behind ≡ Some reason → IsReasonToStop program settings s reason →
      IsStopReply s reason event → IsWhy program settings before behind s event

-- the entry answers the offer of this number: by an action that takes it, or by a reply
pub data IsAnswer (number : ℕ) (event : Event) : Type 0 where
  by_action : (a : Action) (d : Derivation) → event ≡ acted a d (Some (1, number)) → IsAnswer number event
  by_reply : (answer : Answer) → event ≡ replied 1 number answer → IsAnswer number event

-- the entry that answers the offer of this number tells so: an action that takes it, or a reply
abbrev pub Tells : ℕ → Answered → Event → Type 0
Tells number (Done action) event = (d : Derivation) × (event ≡ acted action d (Some (1, number)))
Tells number (Told reply) event = event ≡ replied 1 number (answer_of reply)

-- the event tells so of each offer that it answers
abbrev pub TellsOf : Event → Answered → Type 0
TellsOf event answered = (number : ℕ) → IsAnswer number event → Tells number answered event

-- the event stands last
abbrev pub EndsWith : List Event → Event → Type 0
EndsWith log event = (before : List Event) × (log ≡ before ++ event ∷ [])

abbrev pub TellsLast : List Event → Answered → Type 0
TellsLast log answered = (event : Event) → EndsWith log event → TellsOf event answered

-- The client has asked for the offer, and the next entry answers it, and why.
pub record IsAnswered (old new : BoardView) (offer : Offer) (answered : Answered) : Type 0 where
  pub number : ℕ
  pub event : Event
  pub log : events new ≡ events old ++ pended 1 number offer true ∷ event ∷ []
  pub why : IsWhy (program old) old.settings old.stop new.stop (after_offer (state old) 1 number offer true) event
  pub tells : Tells number answered event

-- where no action is done, the behaviour stays
abbrev pub KeepsBehaviour : BoardView → BoardView → Answered → Type 0
KeepsBehaviour old new (Done action) = Unit {0}
KeepsBehaviour old new (Told reply) = (state new).behaviour ≡ (state old).behaviour
