-- Why the entries of a log are given, by the steps of the behaviour that is reached. (This profile.)
use Rattle.std.specs.Prelude.{ℕ, ◌≡◌, List, [], ◌∷◌, ◌++◌, Option, Some, None, true}
use Rattle.run_settings.specs.declared.settings.Settings.{Settings}
use Rattle.spec_core.specs.Code.{Program}
use Rattle.spec_core.specs.Lists.{Each, IsOneOf}
use Rattle.decision_trees.specs.Rules.{Next}
use Rattle.rule_model.specs.Answering.{name_of}
use Rattle.rule_model.specs.Answers.{Answer, taken, deadlock, stalls, beyond, not_now, ended, spent, too_large, limit}
use Rattle.rule_model.specs.Behaviours.{Behaviour}
use Rattle.rule_model.specs.Code.{IsStart}
use Rattle.rule_model.specs.Derivations.{Derivation}
use Rattle.rule_model.specs.Derives.{NoStep}
use Rattle.rule_model.specs.Events.{OfferName, Event, Ending, pended, acted, replied, stalled, left, exits, deadlocked, waiting, ends_beyond}
use Rattle.rule_model.specs.Events.{ends_spent, ends_too_large, ends_at_limit}
use Rattle.rule_model.specs.Legal.{AllWait, NoneMet, IsDerivation, IsPossible}
use Rattle.rule_model.specs.Meets.{NeverMeets, NoUnseenStep}
use Rattle.rule_model.specs.Wishes.{Wish}
use Rattle.rule_model.specs.States.{PendingOffer, State, start_state}
use Rattle.symbolic_rules.specs.Windows.{Windows, AreWindows}
use Rattle.candidate_laws.specs.TreeLaws.{EntryHolds, IsAnsweredBeyond}
use Rattle.board_offers.specs.Waiting.{waiting_in}
use Rattle.log_states.specs.Clients.{numbers_from}
use Rattle.board_laws.specs.declared.stop_reason.StopReason.{StopReason}
use Rattle.board_laws.specs.Next.{HasEnded, GoesByRules, IsEventOf, IsLeast}
use Rattle.board_laws.specs.Stopping.{answer_by}
use Rattle.board_laws.specs.Reasons.{IsAskedByRules, IsReasonToStop}
use Rattle.client_laws.specs.Ends.{IsEndingOf}
use Rattle.client_laws.specs.Runs.{clients_for}

-- the least client with a pending offer is told that the termination was the last action
abbrev pub IsEndedReply : State → Event → Type 0
IsEndedReply s event = (p : PendingOffer) × HasEnded s.last × IsLeast s p × (event ≡ replied p.client p.number (ended s.actions))

-- the reply gives the reason that has stopped the session
abbrev pub IsByReason : State → Option StopReason → Answer → Type 0
IsByReason s stop answer = (reason : StopReason) × (stop ≡ Some reason) × (answer ≡ answer_by s.actions reason)

module _ (program : Program) (settings : Settings) where
  module _ (s : State) where
    -- nothing is pending or the session hasn't ended, and the event is that of an entry, which says what is so of the steps, with windows
    -- of so many values as are set
    pub record HoldsByRules (event : Event) : Type 0 where
      pub goes : GoesByRules s
      pub entry : Next PendingOffer Derivation
      pub windows : Windows
      pub sized : AreWindows program.theory settings.values windows
      pub comes : IsEventOf program settings s entry event
      pub holds : EntryHolds program windows s.behaviour (waiting_in s) entry

    -- A pending offer of this name is answered beyond, with windows of so many values as are set: the tree is a beyond tree for it, or,
    -- where no ask is pending, one for an action that is unseen; and no windowed tree is for it.
    pub record IsToldBeyond (name : OfferName) (d : Derivation) : Type 0 where
      pub waits : PendingOffer
      pub named : name_of waits ≡ name
      pub windows : Windows
      pub sized : AreWindows program.theory settings.values windows
      pub holds : IsAnsweredBeyond program windows s.behaviour (waiting_in s) waits d

    -- an offer of this name, that only asks, is answered not now: it is pending, and no step meets it
    pub record IsToldNotNow (name : OfferName) : Type 0 where
      pub waits : PendingOffer
      pub named : name_of waits ≡ name
      pub pending : IsOneOf waits s.pending
      pub asks : waits.ask ≡ true
      pub never : NeverMeets program s.behaviour waits.offer

    -- Why an entry is given in a state, where the session has stopped for this reason, or goes on.
    --   an unseen action: each open client has an offer pending;
    --   deadlock: no rule gives a step;
    --   beyond, not now: as above;
    --   ended: the last action was the termination;
    --   the evaluation or a limit: by the reason;
    --   stall: each open client has an offer pending, no step is unseen, and none meets a pending offer.
    abbrev pub IsJustified : Option StopReason → Event → Type 0
    IsJustified stop (pended client number offer ask) = Unit {0}
    IsJustified stop (acted action d None) = AllWait s
    IsJustified stop (acted action d (Some name)) = Unit {0}
    IsJustified stop (replied client number (taken at values)) = ⊥
    IsJustified stop (replied client number (deadlock at)) = NoStep program s.behaviour
    IsJustified stop (replied client number (stalls at)) = ⊥
    IsJustified stop (replied client number (beyond at d)) = IsToldBeyond (client, number) d
    IsJustified stop (replied client number (not_now at)) = IsToldNotNow (client, number)
    IsJustified stop (replied client number (ended at)) = HasEnded s.last
    IsJustified stop (replied client number (spent at term)) = IsByReason s stop (spent at term)
    IsJustified stop (replied client number (too_large at term)) = IsByReason s stop (too_large at term)
    IsJustified stop (replied client number (limit at kind)) = IsByReason s stop (limit at kind)
    IsJustified stop (stalled names) = AllWait s × NoUnseenStep program s.behaviour × NoneMet program s s.pending
    IsJustified stop (left client) = Unit {0}

  -- the log leads from the state s to the state t, each entry being possible and justified
  abbrev pub IsJustifiedLog : Option StopReason → List Event → State → State → Type 0
  IsJustifiedLog stop [] s t = t ≡ s
  IsJustifiedLog stop (event ∷ log) s t =
      (next : State) × IsPossible program s event next × IsJustified s stop event × IsJustifiedLog stop log next t

-- an entry of a session that has stopped for this reason: an offer, a reply that gives the reason, or that a client leaves
abbrev pub ComesAfterStop : StopReason → Event → Type 0
ComesAfterStop reason (pended client number offer ask) = Unit {0}
ComesAfterStop reason (acted action d by) = ⊥
ComesAfterStop reason (replied client number answer) = (at : ℕ) × (answer ≡ answer_by at reason)
ComesAfterStop reason (stalled names) = ⊥
ComesAfterStop reason (left client) = Unit {0}

-- On the way the session stops for this reason: the log leads to a state in which the reason is so, where the rules have something left to ask,
-- and from there on nothing comes but what comes of it.
pub record StopsFor (program : Program) (settings : Settings) (log : List Event) (s : State) (reason : StopReason) : Type 0 where
  pub before : List Event
  pub after : List Event
  pub parts : log ≡ before ++ after
  pub middle : State
  pub leads : IsDerivation program before s middle
  pub is_so : IsReasonToStop program settings middle reason
  pub asked : IsAskedByRules program settings middle reason
  pub comes : Each (ComesAfterStop reason) after

-- The session of a client with these wishes is legal: from the specification's behaviour on, each entry is possible and justified; what
-- stops it is so where it stops; at the end no client is open and no offer is pending; and the end is that of the state that is reached.
pub record IsLegalSession (program : Program) (settings : Settings) (wishes : List Wish) (log : List Event) (ending : Ending) : Type 0 where
  pub behaviour : Behaviour
  pub start : IsStart program behaviour
  pub stop : Option StopReason
  pub last : State
  pub entries : IsJustifiedLog program settings stop log (start_state behaviour (numbers_from 1 (clients_for wishes))) last
  pub stops : (reason : StopReason) → stop ≡ Some reason →
      StopsFor program settings log (start_state behaviour (numbers_from 1 (clients_for wishes))) reason
  pub closed : last.open_clients ≡ []
  pub answered : last.pending ≡ []
  pub ends : IsEndingOf program settings last stop ending

-- no reason to stop is so on the way, from the specification's behaviour on
abbrev pub NeverStops : Program → Settings → List Wish → List Event → Type 0
NeverStops program settings wishes log =
    (behaviour : Behaviour) →
    IsStart program behaviour →
    (reason : StopReason) →
    StopsFor program settings log (start_state behaviour (numbers_from 1 (clients_for wishes))) reason →
    ⊥

-- the session wasn't stopped
abbrev pub IsUnstopped : Ending → Type 0
IsUnstopped exits = Unit {0}
IsUnstopped deadlocked = Unit {0}
IsUnstopped waiting = Unit {0}
IsUnstopped ends_beyond = Unit {0}
IsUnstopped (ends_spent term) = ⊥
IsUnstopped (ends_too_large term) = ⊥
IsUnstopped (ends_at_limit kind) = ⊥
