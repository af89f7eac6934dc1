-- Logs that have a trace: what may stand in their entries.
use Rattle.std.specs.Prelude.{ℕ, ◌+◌, ◌<◌, ◌≤◌, ◌^◌, ◌≡◌, List, [], ◌∷◌, Option, Some, None, length}
use Rattle.spec_core.specs.Code.{Program}
use Rattle.spec_core.specs.Lists.{Each}
use Rattle.spec_core.specs.Sorts.{FitsGround, IsDeclaredSort}
use Rattle.value_text.specs.Values.{IsGroundList}
use Rattle.rule_model.specs.declared.action.Action.{Action}
use Rattle.rule_model.specs.declared.action.Action.TheVariants.{Inner, Exit, At}
use Rattle.rule_model.specs.declared.offer.Field.{Field}
use Rattle.rule_model.specs.declared.offer.Field.TheVariants.{Give, Take}
use Rattle.rule_model.specs.declared.offer.Offer.{Offer}
use Rattle.rule_model.specs.declared.rules.Slot.{Slot}
use Rattle.rule_model.specs.declared.rules.Slot.TheVariants.{Of, Mark, Blank}
use Rattle.rule_model.specs.Derivations.{Derivation, pre, int, exiting, chl, chr, val, gate, guard, letting, parl, parr, both, hiding, pass}
use Rattle.rule_model.specs.Derivations.{enstep, enend, disstep, disend, distake, calling, rel}
use Rattle.rule_model.specs.Answers.{Answer, taken, deadlock, stalls, beyond, not_now, ended, spent, too_large, limit}
use Rattle.rule_model.specs.Events.{OfferName, Event, pended, acted, replied, stalled, left, Ending, exits, deadlocked, waiting}
use Rattle.rule_model.specs.Events.{ends_beyond, ends_spent, ends_too_large, ends_at_limit}
use Rattle.rule_model.specs.Legal.{IsReplyAt}

-- a client from 1 to 64, and the number of one of its offers, from 1
abbrev pub IsClient : ℕ → Type 0
IsClient client = (1 ≤ client) × (client ≤ 64)

abbrev pub NameFits : OfferName → Type 0
NameFits name = IsClient name.0 × (1 ≤ name.1) × (name.1 < 2 ^ 64)

abbrev pub ByFits : Option OfferName → Type 0
ByFits None = Unit {0}
ByFits (Some name) = NameFits name

module _ (program : Program) where
  abbrev pub FieldFits : Field → Type 0
  FieldFits (Give value) = IsGroundList program.theory value
  FieldFits (Take sort) = IsDeclaredSort program.theory sort.0

  abbrev pub OfferFits : Offer → Type 0
  OfferFits offer = (offer.gate.0 < length program.gates) × Each FieldFits offer.fields

  abbrev pub ActionFits : Action → Type 0
  ActionFits Inner = Unit {0}
  ActionFits (Exit values) = Each (IsGroundList program.theory) values
  ActionFits (At place values) = (place.0 < length program.gates) × Each (IsGroundList program.theory) values

  -- a chosen value is there, or is the mark
  abbrev pub SlotFits : Slot → Type 0
  SlotFits (Of value) = IsGroundList program.theory value
  SlotFits Mark = Unit {0}
  SlotFits Blank = ⊥

  -- each chosen value of a tree fits, and places of gates are numbers of 32 bits
  abbrev pub TreeFits : Derivation → Type 0
  TreeFits (pre slots) = Each SlotFits slots
  TreeFits int = Unit {0}
  TreeFits (exiting slots) = Each SlotFits slots
  TreeFits (chl d) = TreeFits d
  TreeFits (chr d) = TreeFits d
  TreeFits (val slot d) = SlotFits slot × TreeFits d
  TreeFits (gate place d) = (place < 2 ^ 32) × TreeFits d
  TreeFits (guard d) = TreeFits d
  TreeFits (letting d) = TreeFits d
  TreeFits (parl d) = TreeFits d
  TreeFits (parr d) = TreeFits d
  TreeFits (both d e) = TreeFits d × TreeFits e
  TreeFits (hiding d) = TreeFits d
  TreeFits (pass d) = TreeFits d
  TreeFits (enstep d) = TreeFits d
  TreeFits (enend d) = TreeFits d
  TreeFits (disstep d) = TreeFits d
  TreeFits (disend d) = TreeFits d
  TreeFits (distake d) = TreeFits d
  TreeFits (calling d) = TreeFits d
  TreeFits (rel d) = TreeFits d

  -- that an offer was taken, and that it was stalled, are entries of their own
  abbrev pub AnswerFits : Answer → Type 0
  AnswerFits (taken at values) = ⊥
  AnswerFits (deadlock at) = Unit {0}
  AnswerFits (stalls at) = ⊥
  AnswerFits (beyond at d) = TreeFits d
  AnswerFits (not_now at) = Unit {0}
  AnswerFits (ended at) = Unit {0}
  AnswerFits (spent at term) = FitsGround program.theory term
  AnswerFits (too_large at term) = FitsGround program.theory term
  AnswerFits (limit at kind) = Unit {0}

  -- a stall names at least one offer
  abbrev pub EventFits : Event → Type 0
  EventFits (pended client number offer ask) = NameFits (client, number) × OfferFits offer
  EventFits (acted action d by) = ActionFits action × TreeFits d × ByFits by
  EventFits (replied client number answer) = NameFits (client, number) × AnswerFits answer
  EventFits (stalled names) = (names ≡ [] → ⊥) × Each NameFits names
  EventFits (left client) = IsClient client

  abbrev pub EndingFits : Ending → Type 0
  EndingFits exits = Unit {0}
  EndingFits deadlocked = Unit {0}
  EndingFits waiting = Unit {0}
  EndingFits ends_beyond = Unit {0}
  EndingFits (ends_spent term) = FitsGround program.theory term
  EndingFits (ends_too_large term) = FitsGround program.theory term
  EndingFits (ends_at_limit kind) = Unit {0}

-- where there were so many actions before: the number in each reply is the number of actions before it
abbrev pub CountsActions : ℕ → List Event → Type 0
CountsActions n [] = Unit {0}
CountsActions n (pended client number offer ask ∷ log) = CountsActions n log
CountsActions n (acted action d by ∷ log) = CountsActions (n + 1) log
CountsActions n (replied client number answer ∷ log) = IsReplyAt answer n × CountsActions n log
CountsActions n (stalled names ∷ log) = CountsActions n log
CountsActions n (left client ∷ log) = CountsActions n log

-- A log and its end that have a trace: gates, sorts and terms are of the specification, numbers are in their ranges, and the number in
-- each reply is the number of actions before it.
pub record HasTrace (program : Program) (log : List Event) (ending : Ending) : Type 0 where
  pub events : Each (EventFits program) log
  pub last : EndingFits program ending
  pub counted : CountsActions 0 log
