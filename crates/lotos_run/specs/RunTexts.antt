-- What `run` and `selfrun` print.
use Rattle.std.specs.Prelude.{ℕ, List, codes}
use Rattle.spec_core.specs.Code.{Program}
use Rattle.spec_core.specs.Terms.{term_of}
use Rattle.rule_model.specs.declared.log.End.{End}
use Rattle.rule_model.specs.declared.log.End.TheVariants as ends
use Rattle.rule_model.specs.Events.{Event, Ending, ending_of}
use Rattle.rule_model.specs.Logs.{events_of}
use Rattle.trace_text.specs.Names.{names_in}
use Rattle.trace_text.specs.Formats.{trace_bytes}
use Rattle.command_run.specs.declared.answer.Answer.{Answer}
use Rattle.command_run.specs.declared.answer.Answer.TheVariants as came
use Rattle.command_selfrun.specs.Lines.{line_of}
use Rattle.lotos_run.specs.declared.run_text.SessionText.{SessionText}
use Rattle.lotos_run.specs.declared.run_text.SessionText.TheVariants.{Trace, Counts}
use Rattle.lotos_run.specs.declared.status.Status.{Status}
use Rattle.lotos_run.specs.declared.status.Status.TheVariants.{Done, Spent, Limit, ScriptRefused}
use Rattle.lotos_run.specs.Lines.{script_refusal, term_line}

-- the status that is due for how a session ends
abbrev pub status_of_end : End → Status
status_of_end ends.Exit = Done
status_of_end ends.Deadlock = Done
status_of_end ends.Waiting = Done
status_of_end ends.Beyond = Done
status_of_end (ends.Spent t) = Spent
status_of_end (ends.TooLarge t) = Limit
status_of_end (ends.Limit kind) = Limit

-- the status that is due for what comes of a script
abbrev pub status_of : Answer → Status
status_of (came.Ran log end) = status_of_end end
status_of (came.Spent t) = Spent
status_of (came.TooLarge t) = Limit
status_of (came.Refused line kind) = ScriptRefused

-- what is printed of a session: its trace in a format, or the line with its counts
abbrev pub session_text : SessionText → Program → List Event → Ending → List ℕ
session_text (Trace format) program log ending = trace_bytes (names_in program) format log ending
session_text Counts program log ending = line_of program log ending

-- the text that is due for what comes of a script: what is printed of its session, or why there is none
abbrev pub text_of : SessionText → Program → Answer → List ℕ
text_of printed program (came.Ran log end) = session_text printed program (events_of log) (ending_of end)
text_of printed program (came.Spent t) = term_line (codes "spent ") program.theory (term_of t)
text_of printed program (came.TooLarge t) = term_line (codes "large ") program.theory (term_of t)
text_of printed program (came.Refused line kind) = script_refusal line kind
