-- What happens in a session, without places in memory.
use Rattle.std.specs.Prelude.{ℕ, Bool, List, Option}
use Rattle.spec_core.specs.Terms.{TermTree, term_of}
use Rattle.rule_model.specs.declared.action.Action.{Action}
use Rattle.rule_model.specs.declared.offer.Offer.{Offer}
use Rattle.rule_model.specs.declared.reply.LimitKind.{LimitKind}
use Rattle.rule_model.specs.declared.log.Entry.{Entry}
use Rattle.rule_model.specs.declared.log.Entry.TheVariants.{Pend, Act, Reply, Stall, Leave}
use Rattle.rule_model.specs.declared.log.End.{End}
use Rattle.rule_model.specs.declared.log.End.TheVariants.{Exit, Deadlock, Waiting, Beyond, Spent, TooLarge, Limit}
use Rattle.rule_model.specs.Derivations.{Derivation, derivation_of}
use Rattle.rule_model.specs.Answers.{Answer, answer_of}

-- a client's number, and the number of one of its offers
abbrev pub OfferName : Type 0
OfferName = ℕ × ℕ

-- an offer or an ask of a client; an action by a tree, with the offer that it takes; a reply; the stall of all pending offers; a
-- client that leaves
pub data Event : Type 0 where
  pended : ℕ → ℕ → Offer → Bool → Event
  acted : Action → Derivation → Option OfferName → Event
  replied : ℕ → ℕ → Answer → Event
  stalled : List OfferName → Event
  left : ℕ → Event

abbrev pub event_of : Entry → Event
event_of (Pend client number offer ask) = pended client number offer ask
event_of (Act action rules by) = acted action (derivation_of rules) by
event_of (Reply client number reply) = replied client number (answer_of reply)
event_of (Stall names) = stalled names.items
event_of (Leave client) = left client

-- how a session ended
pub data Ending : Type 0 where
  exits : Ending
  deadlocked : Ending
  waiting : Ending
  ends_beyond : Ending
  ends_spent : TermTree → Ending
  ends_too_large : TermTree → Ending
  ends_at_limit : LimitKind → Ending

abbrev pub ending_of : End → Ending
ending_of Exit = exits
ending_of Deadlock = deadlocked
ending_of Waiting = waiting
ending_of Beyond = ends_beyond
ending_of (Spent term) = ends_spent (term_of term)
ending_of (TooLarge term) = ends_too_large (term_of term)
ending_of (Limit kind) = ends_at_limit kind
