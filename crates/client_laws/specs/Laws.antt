-- What follows from the definitions.
use Rattle.std.specs.Prelude.{◌≡◌, ◌⊎◌, List, [], Option, Some}
use Rattle.run_settings.specs.declared.settings.Settings.{Settings}
use Rattle.spec_core.specs.Code.{Program}
use Rattle.spec_core.specs.Ready.{IsReady}
use Rattle.rule_model.specs.Answering.{AnswersEach}
use Rattle.rule_model.specs.Behaviours.{Behaviour}
use Rattle.rule_model.specs.Code.{IsStart}
use Rattle.rule_model.specs.Derives.{NoStep, SomeStep}
use Rattle.rule_model.specs.Events.{Event, Ending, exits, deadlocked, waiting, ends_beyond, ends_spent, ends_too_large, ends_at_limit}
use Rattle.rule_model.specs.Legal.{IsDerivation}
use Rattle.rule_model.specs.Wishes.{Wish}
use Rattle.rule_model.specs.States.{State, start_state}
use Rattle.log_states.specs.Clients.{numbers_from}
use Rattle.board_laws.specs.declared.stop_reason.StopReason.{StopReason}
use Rattle.board_laws.specs.Next.{IsNextEvent}
use Rattle.client_laws.specs.Ends.{IsEndOfTrees, IsEndingOf}
use Rattle.client_laws.specs.Justified.{IsEndedReply, HoldsByRules, IsJustifiedLog, StopsFor, IsLegalSession, NeverStops}
use Rattle.client_laws.specs.Justified.{IsUnstopped}
use Rattle.client_laws.specs.OneRun.{IsUnstoppedButBySteps, OnlyStepsStop}
use Rattle.client_laws.specs.Runs.{IsRun, IsClientRun, clients_for}

-- each run is a derivation by the inference rules
abbrev pub RunsAreDerivations : Type 0
RunsAreDerivations =
    (program : Program) (settings : Settings) (start : State) (stop : Option StopReason) (wishes : List Wish) (log : List Event)
    (s : State) →
    IsRun program settings start stop wishes log s →
    IsDerivation program log start s

-- A run from a state in which nothing is pending, and client 1 has made no offer, to one in which nothing is pending: its offers are just
-- those that the client wishes, in order, each with exactly one answer.
abbrev pub RunsAnswerEach : Type 0
RunsAnswerEach =
    (program : Program) (settings : Settings) (start : State) (stop : Option StopReason) (wishes : List Wish) (log : List Event)
    (s : State) →
    start.pending ≡ [] →
    start.made 1 ≡ 0 →
    IsRun program settings start stop wishes log s →
    s.pending ≡ [] →
    AnswersEach wishes log

-- The session of a client is a derivation from the specification's behaviour on, with the client open if it wishes something.
abbrev pub ClientRunsAreDerivations : Type 0
ClientRunsAreDerivations =
    (program : Program) (settings : Settings) (wishes : List Wish) (log : List Event) (ending : Ending) →
    IsClientRun program settings wishes log ending →
    (behaviour : Behaviour) × (last : State) × IsStart program behaviour ×
    IsDerivation program log (start_state behaviour (numbers_from 1 (clients_for wishes))) last

-- In the session of a client of a specification that is ready the offers are just those that the client wishes, in order, each with
-- exactly one answer.
abbrev pub ClientRunsAnswerEach : Type 0
ClientRunsAnswerEach =
    (program : Program) (settings : Settings) (wishes : List Wish) (log : List Event) (ending : Ending) →
    IsReady program →
    IsClientRun program settings wishes log ending →
    AnswersEach wishes log

-- What comes next in a state, where the specification is ready: that the session has ended, or the event of an entry that says what is so
-- of the steps.
abbrev pub NextEventsHold : Type 0
NextEventsHold =
    (program : Program) (settings : Settings) (s : State) (event : Event) →
    IsReady program →
    IsNextEvent program settings s event →
    IsEndedReply s event ⊎ HoldsByRules program settings s event

-- a run that has stopped stopped for its reason where this is so
abbrev pub RunsStopForReasons : Type 0
RunsStopForReasons =
    (program : Program) (settings : Settings) (start : State) (stop : Option StopReason) (wishes : List Wish) (log : List Event)
    (s : State) →
    IsRun program settings start stop wishes log s →
    (reason : StopReason) →
    stop ≡ Some reason →
    StopsFor program settings log start reason

-- in each run of a specification that is ready each entry is possible and justified
abbrev pub RunsAreJustified : Type 0
RunsAreJustified =
    (program : Program) (settings : Settings) (start : State) (stop : Option StopReason) (wishes : List Wish) (log : List Event)
    (s : State) →
    IsReady program →
    IsRun program settings start stop wishes log s →
    IsJustifiedLog program settings stop log start s

-- where each entry of a log is possible and justified, the log is a derivation
abbrev pub JustifiedLogsAreDerivations : Type 0
JustifiedLogsAreDerivations =
    (program : Program) (settings : Settings) (stop : Option StopReason) (log : List Event) (s t : State) →
    IsJustifiedLog program settings stop log s t →
    IsDerivation program log s t

-- the session of a client of a specification that is ready is legal
abbrev pub ClientRunsAreLegal : Type 0
ClientRunsAreLegal =
    (program : Program) (settings : Settings) (wishes : List Wish) (log : List Event) (ending : Ending) →
    IsReady program →
    IsClientRun program settings wishes log ending →
    IsLegalSession program settings wishes log ending

-- where no reason to stop is so on the way, the session isn't stopped: it goes on to its end by the rules
abbrev pub ClientRunsAreComplete : Type 0
ClientRunsAreComplete =
    (program : Program) (settings : Settings) (wishes : List Wish) (log : List Event) (ending : Ending) →
    IsClientRun program settings wishes log ending →
    NeverStops program settings wishes log →
    IsUnstopped ending

-- what an end says of the steps of a behaviour: a deadlock, that no rule gives one; waiting, that some rule does
abbrev pub SaysOfSteps : Program → Behaviour → Ending → Type 0
SaysOfSteps program b deadlocked = NoStep program b
SaysOfSteps program b waiting = SomeStep program b
SaysOfSteps program b exits = Unit {0}
SaysOfSteps program b ends_beyond = Unit {0}
SaysOfSteps program b (ends_spent term) = Unit {0}
SaysOfSteps program b (ends_too_large term) = Unit {0}
SaysOfSteps program b (ends_at_limit kind) = Unit {0}

-- what the end of a session of a specification that is ready says is so of the behaviour that is reached
abbrev pub EndsSayWhatIsSo : Type 0
EndsSayWhatIsSo =
    (program : Program) (settings : Settings) (s : State) (stop : Option StopReason) (ending : Ending) →
    IsReady program →
    IsEndingOf program settings s stop ending →
    SaysOfSteps program s.behaviour ending

-- by the trees of the behaviour that is reached a session has one end: a deadlock, waiting or beyond, and never two of them
abbrev pub TreesHaveOneEnd : Type 0
TreesHaveOneEnd =
    (program : Program) (settings : Settings) (s : State) (ending other : Ending) →
    IsEndOfTrees program settings s ending →
    IsEndOfTrees program settings s other →
    ending ≡ other

-- Two sessions of a specification that is ready, of a client with the same wishes and with the same settings, are one, where neither was
-- stopped, or only because there were as many actions as are allowed.
abbrev pub SessionsAreOne : Type 0
SessionsAreOne =
    (program : Program) (settings : Settings) (wishes : List Wish) (log other_log : List Event) (ending other_ending : Ending) →
    IsReady program →
    IsClientRun program settings wishes log ending →
    IsUnstoppedButBySteps ending →
    IsClientRun program settings wishes other_log other_ending →
    IsUnstoppedButBySteps other_ending →
    (other_log ≡ log) × (other_ending ≡ ending)

-- Where on the way of one session no reason to stop is so, but that there were as many actions as are allowed, there is no other.
abbrev pub NoOtherSession : Type 0
NoOtherSession =
    (program : Program) (settings : Settings) (wishes : List Wish) (log other_log : List Event) (ending other_ending : Ending) →
    IsReady program →
    IsClientRun program settings wishes log ending →
    OnlyStepsStop program settings wishes log →
    IsClientRun program settings wishes other_log other_ending →
    (other_log ≡ log) × (other_ending ≡ ending)
