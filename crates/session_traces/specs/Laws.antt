-- What follows from the definitions.
use Rattle.std.specs.Prelude.{ℕ, ◌≡◌, ◌<◌, ◌≤◌, ◌^◌, List, length}
use Rattle.spec_core.specs.Code.{Program}
use Rattle.spec_core.specs.Lists.{Each}
use Rattle.spec_core.specs.Ready.{IsReady}
use Rattle.run_settings.specs.declared.settings.Settings.{Settings}
use Rattle.rule_model.specs.Events.{Event, Ending, ending_of}
use Rattle.rule_model.specs.Logs.{events_of}
use Rattle.rule_model.specs.declared.log.End.{End}
use Rattle.rule_model.specs.declared.log.Log.{Log}
use Rattle.rule_sorts.specs.Fitting.{HasFewGates}
use Rattle.script_text.specs.Scripts.{WishFits}
use Rattle.script_text.specs.Wishes.{Wished}
use Rattle.trace_reader.specs.Traces.{trace_limit}
use Rattle.trace_text.specs.declared.format.Format.{Format}
use Rattle.trace_text.specs.Fits.{HasTrace}
use Rattle.trace_text.specs.Laws.{IsShort}
use Rattle.command_run.specs.Runs.{IsSessionOf}
use Rattle.command_run.specs.Runs as runs
use Rattle.command_run.specs.declared.answer.Answer.TheVariants.{Ran}
use Rattle.command_replay.specs.Replays as replays
use Rattle.command_replay.specs.declared.answer.Answer.{Answer}
use Rattle.session_traces.specs.Texts.{IsTextOf, TellsDerivation}

-- The log of each session has a trace, where the specification is ready, at most 64 clients make fewer than 2^64 offers each, and what they
-- wish fits the specification.
abbrev pub SessionsHaveTraces : Type 0
SessionsHaveTraces =
    (program : Program) (settings : Settings) (clients : List (List Wished)) (log : List Event) (ending : Ending) →
    IsReady program →
    HasFewGates program →
    length clients ≤ 64 →
    Each (λ (wishes : List Wished). length wishes < 2 ^ 64) clients →
    Each (Each (WishFits program)) clients →
    IsSessionOf program settings clients log ending →
    HasTrace program log ending

-- the same of each session that comes of a script
abbrev pub ScriptsHaveTraces : Type 0
ScriptsHaveTraces =
    (program : Program) (settings : Settings) (script : List ℕ) (log : Log) (end : End) →
    IsReady program →
    HasFewGates program →
    runs.Comes program settings script (Ran log end) →
    HasTrace program (events_of log) (ending_of end)

-- its text, in either format, is the trace of no other log, of no other end, and in no other format
abbrev pub TracesAreOfOneSession : Type 0
TracesAreOfOneSession =
    (program : Program) (settings : Settings) (script : List ℕ) (log : Log) (end : End) →
    IsReady program →
    HasFewGates program →
    runs.Comes program settings script (Ran log end) →
    (text : List ℕ) (format form : Format) →
    IsTextOf program format (events_of log) (ending_of end) text →
    IsShort format text →
    (other : List Event) (another : Ending) →
    HasTrace program other another →
    IsTextOf program form other another text →
    (form ≡ format) × (other ≡ events_of log) × (another ≡ ending_of end)

-- whatever `replay` answers to its text, in either format, it tells that the log is a derivation, unless a term that it asks is too dear, or too large
abbrev pub SessionsAreReplayed : Type 0
SessionsAreReplayed =
    (program : Program) (settings : Settings) (script : List ℕ) (log : Log) (end : End) →
    IsReady program →
    HasFewGates program →
    runs.Comes program settings script (Ran log end) →
    (text : List ℕ) (format : Format) →
    IsTextOf program format (events_of log) (ending_of end) text →
    length text ≤ trace_limit →
    (budget : ℕ) (answer : Answer) →
    replays.Comes program text budget answer →
    TellsDerivation program (events_of log) budget answer
