-- What is known of a text of which some lines were read.
use Rattle.std.specs.Prelude.{ℕ, ◌≡◌, List, ◌++◌}
use Rattle.spec_core.specs.Code.{Program}
use Rattle.spec_core.specs.Lists.{Each}
use Rattle.rule_model.specs.Events.{Event}
use Rattle.trace_text.specs.declared.format.Format.{Format}
use Rattle.trace_text.specs.declared.lines.LinesBefore.{LinesBefore}
use Rattle.trace_text.specs.Fits.{EventFits, CountsActions}
use Rattle.trace_text.specs.Formats.{behind_log, first_line, log_text, nothing_before}
use Rattle.trace_text.specs.Names.{names_in}
use Rattle.trace_text.specs.Standing.{StandsBehind}

-- the first line and those of a log were read
pub record HasRead (program : Program) (format : Format) (text : List ℕ) (log : List Event) (rest : List ℕ) : Type 0 where
  pub fits : Each (EventFits program) log
  pub counts : (later : List Event) → CountsActions (behind_log (names_in program) nothing_before log).actions later → CountsActions 0 (log ++ later)
  pub whole : text ≡ first_line format ++ (log_text (names_in program) format nothing_before log ++ rest)

-- the writer of a format stands behind the lines of a log
pub record Follows (program : Program) (format : Format) (log : List Event) (lines : LinesBefore) : Type 0 where
  pub format_is : lines.format ≡ format
  pub stands : StandsBehind lines (behind_log (names_in program) nothing_before log)
