-- What comes of a text that is to be the trace of a derivation. (This profile.)
use Rattle.std.specs.Prelude.{ℕ, ◌≡◌, ◌+◌, List}
use Rattle.spec_core.specs.Budgets.{IsBeyond}
use Rattle.spec_core.specs.Code.{Program}
use Rattle.spec_core.specs.Terms.{term_of}
use Rattle.rewriter.specs.Answers.{MeetsTooLarge}
use Rattle.rule_model.specs.Events.{Event, Ending}
use Rattle.log_check.specs.Checked.{IsDerivationOf, EndsAt, LogAsks, LogTermsAreWithin, LogGroundTermsAreWithin}
use Rattle.trace_text.specs.declared.format.Format.{Format}
use Rattle.trace_text.specs.Formats.{entry_line}
use Rattle.trace_reader.specs.Traces.{IsTrace, IsFault}
use Rattle.trace_reader.specs.declared.fault.TraceFault.TheVariants as faults
use Rattle.command_replay.specs.declared.answer.Answer.{Answer}
use Rattle.command_replay.specs.declared.answer.Answer.TheVariants as answers

-- What comes of a log whose trace is in a format, with so many uses of equations for each term.
--   derivation: it is a derivation with so many actions, and each term that its trees ask has a value within so many uses, and meets none
--   that is too large;
--   not a derivation: its entry in this line is the first that isn't possible, and each ground term that the trees up to it ask has;
--   spent, too large: the tree of an entry, up to which it is a derivation, asks this term, which has no value within the budget, or meets
--   a value that is too large
abbrev pub LogComes : Program → Format → List Event → ℕ → Answer → Type 0
LogComes program format log budget (answers.Derivation actions) = IsDerivationOf program log actions × LogTermsAreWithin program log budget
LogComes program format log budget (answers.NotADerivation line) =
    ((entry : ℕ) × EndsAt program log entry × (line ≡ entry_line format log entry)) × LogGroundTermsAreWithin program log budget
LogComes program format log budget (answers.Spent x) = LogAsks program log (term_of x) × IsBeyond program.theory (term_of x) budget
LogComes program format log budget (answers.TooLarge x) = LogAsks program log (term_of x) × MeetsTooLarge program.theory (term_of x)
LogComes program format log budget (answers.Refused line kind) = ⊥

-- the text is a trace of a log, and this comes of the log
pub record TraceComes (program : Program) (text : List ℕ) (budget : ℕ) (answer : Answer) : Type 0 where
  pub format : Format
  pub log : List Event
  pub ending : Ending
  pub trace : IsTrace program text format log ending
  pub comes : LogComes program format log budget answer

-- what comes of a text: of the log of which it is the trace, or its first line that no trace has there
abbrev pub Comes : Program → List ℕ → ℕ → Answer → Type 0
Comes program text budget (answers.Refused line kind) = IsFault program text (faults.Line line kind)
Comes program text budget answer = TraceComes program text budget answer
