-- The run of one client, or of none. (This profile.)
use Rattle.std.specs.Prelude.{ℕ, ◌≡◌, ◌∷◌, ◌++◌, [], List, Option, Some, None}
use Rattle.run_settings.specs.declared.settings.Settings.{Settings}
use Rattle.spec_core.specs.Code.{Program}
use Rattle.rule_model.specs.Behaviours.{Behaviour}
use Rattle.rule_model.specs.Code.{IsStart}
use Rattle.rule_model.specs.Events.{Event, Ending, pended, left}
use Rattle.rule_model.specs.Legal.{IsPossible}
use Rattle.rule_model.specs.Wishes.{Wish}
use Rattle.rule_model.specs.States.{State, start_state}
use Rattle.decision_trees.specs.Rules.{nothing}
use Rattle.board_laws.specs.Next.{GoesByRules, IsNextEvent, IsNextOf, IsStopReply}
use Rattle.log_states.specs.Clients.{numbers_from}
use Rattle.board_laws.specs.declared.stop_reason.StopReason.{StopReason}
use Rattle.board_laws.specs.Reasons.{IsAskedByRules, IsReasonToStop}
use Rattle.client_laws.specs.Ends.{IsEndingOf}

module _ (program : Program) (settings : Settings) where
  -- Nothing is left to be done before the client acts: the session has stopped and no offer is pending, or nothing comes next by the rules.
  pub data IsSettledAt (stop : Option StopReason) (s : State) : Type 0 where
    all_told : (reason : StopReason) → stop ≡ Some reason → s.pending ≡ [] → IsSettledAt stop s
    none_next : stop ≡ None → GoesByRules s → IsNextOf program settings s nothing → IsSettledAt stop s

  -- A run from a state on, of a client that makes these offers in order, each where nothing else is left to be done, and may leave then.
  -- What comes next by the rules is appended. It may stop in each state for a reason that is so there, where the rules have something left to
  -- ask, and from then on nothing is appended but what comes of it: each offer is answered by the reason.
  pub data IsRun (start : State) : Option StopReason → List Wish → List Event → State → Type 0 where
    run_begins : {stop : Option StopReason} {wishes : List Wish} {log : List Event} {s : State} → stop ≡ None → wishes ≡ [] → log ≡ [] →
        s ≡ start → IsRun start stop wishes log s
    run_offers : {stop : Option StopReason} {wishes : List Wish} {log : List Event} {s : State} (made : List Wish) (wish : Wish)
        (before : List Event) (number : ℕ) (m : State) → wishes ≡ made ++ wish ∷ [] →
        log ≡ before ++ pended 1 number wish.offer wish.ask ∷ [] → IsRun start stop made before m → IsSettledAt stop m →
        IsPossible program m (pended 1 number wish.offer wish.ask) s → IsRun start stop wishes log s
    run_leaves : {stop : Option StopReason} {wishes : List Wish} {log : List Event} {s : State} (before : List Event) (m : State) →
        log ≡ before ++ left 1 ∷ [] → IsRun start stop wishes before m → IsSettledAt stop m → IsPossible program m (left 1) s →
        IsRun start stop wishes log s
    run_goes_on : {stop : Option StopReason} {wishes : List Wish} {log : List Event} {s : State} (before : List Event) (event : Event)
        (m : State) → stop ≡ None → log ≡ before ++ event ∷ [] → IsRun start stop wishes before m → IsNextEvent program settings m event →
        IsPossible program m event s → IsRun start stop wishes log s
    run_stops : {stop : Option StopReason} {wishes : List Wish} {log : List Event} {s : State} (reason : StopReason) → stop ≡ Some reason →
        IsRun start None wishes log s → IsReasonToStop program settings s reason → IsAskedByRules program settings s reason →
        IsRun start stop wishes log s
    run_tells : {stop : Option StopReason} {wishes : List Wish} {log : List Event} {s : State} (reason : StopReason) (before : List Event)
        (event : Event) (m : State) → stop ≡ Some reason → log ≡ before ++ event ∷ [] → IsRun start stop wishes before m →
        IsStopReply m reason event → IsPossible program m event s → IsRun start stop wishes log s

-- how many clients there are: one, where it wishes something
abbrev pub clients_for : List Wish → ℕ
clients_for [] = 0
clients_for (wish ∷ wishes) = 1

-- The session of a client that makes these wishes, from the specification's behaviour on: a run up to where no client is open and nothing
-- is left to be done; and how it ends.
pub record IsClientRun (program : Program) (settings : Settings) (wishes : List Wish) (log : List Event) (ending : Ending) : Type 0 where
  pub behaviour : Behaviour
  pub start : IsStart program behaviour
  pub stop : Option StopReason
  pub last : State
  pub run : IsRun program settings (start_state behaviour (numbers_from 1 (clients_for wishes))) stop wishes log last
  pub settled : IsSettledAt program settings stop last
  pub closed : last.open_clients ≡ []
  pub ends : IsEndingOf program settings last stop ending
