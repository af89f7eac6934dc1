-- Logs of sessions of any number of clients. (This profile.)
use Rattle.std.specs.Prelude.{◌≡◌, ◌⊎◌, ◌++◌, ◌∷◌, [], List, Option, Some, None}
use Rattle.run_settings.specs.declared.settings.Settings.{Settings}
use Rattle.spec_core.specs.Code.{Program}
use Rattle.rule_model.specs.Events.{Event, pended, acted, replied, stalled, left}
use Rattle.rule_model.specs.Legal.{IsPossible}
use Rattle.rule_model.specs.States.{State}
use Rattle.board_laws.specs.declared.stop_reason.StopReason.{StopReason}
use Rattle.board_laws.specs.Next.{IsNextEvent, IsStopReply}
use Rattle.board_laws.specs.Reasons.{IsAskedByRules, IsReasonToStop}

-- a client makes the entry: it offers, asks or leaves; all others are the session's own
abbrev pub IsOfClient : Event → Type 0
IsOfClient (pended client number offer ask) = Unit {0}
IsOfClient (acted action d by) = ⊥
IsOfClient (replied client number answer) = ⊥
IsOfClient (stalled names) = ⊥
IsOfClient (left client) = Unit {0}

module _ (program : Program) (Comes : State → Event → Type 0) where
  -- the log leads from the state s to the state t; each entry is possible in the state before it, and comes in it as it has to
  abbrev pub IsLogBy : List Event → State → State → Type 0
  IsLogBy [] s t = t ≡ s
  IsLogBy (event ∷ log) s t = (next : State) × IsPossible program s event next × Comes s event × IsLogBy log next t

module _ (program : Program) (settings : Settings) where
  -- a client makes the entry, or it is what comes next by the rules
  abbrev pub ComesByRules : State → Event → Type 0
  ComesByRules s event = IsOfClient event ⊎ IsNextEvent program settings s event

-- a client makes the entry, or it tells the least client with a pending offer the reason
abbrev pub ComesByReason : StopReason → State → Event → Type 0
ComesByReason reason s event = IsOfClient event ⊎ IsStopReply s reason event

module _ (program : Program) (settings : Settings) (start : State) where
  -- The log leads by the rules to a state in which the reason to stop is so, where they have something left to ask, and from there on by the
  -- reason.
  pub record IsStoppedLog (reason : StopReason) (log : List Event) (s : State) : Type 0 where
    pub before : List Event
    pub after : List Event
    pub parts : log ≡ before ++ after
    pub middle : State
    pub by_rules : IsLogBy program (ComesByRules program settings) before start middle
    pub is_so : IsReasonToStop program settings middle reason
    pub asked : IsAskedByRules program settings middle reason
    pub by_reason : IsLogBy program (ComesByReason reason) after middle s

  -- The log leads from the one state to the other: whatever clients do in whatever order, each other entry is what comes next in the state
  -- before it; and once a reason has stopped the session, which is so then, nothing comes but what comes of it.
  abbrev pub IsDrivenLog : Option StopReason → List Event → State → Type 0
  IsDrivenLog None log s = IsLogBy program (ComesByRules program settings) log start s
  IsDrivenLog (Some reason) log s = IsStoppedLog reason log s
