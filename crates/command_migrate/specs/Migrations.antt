-- What comes of a text that is to be a trace. (This profile.)
use Rattle.std.specs.Prelude.{ℕ, ◌≡◌, List, string_bytes}
use Rattle.spec_core.specs.Code.{Program}
use Rattle.rule_model.specs.Events.{Event, Ending}
use Rattle.trace_text.specs.declared.format.Format.{Format}
use Rattle.trace_text.specs.declared.format.Format.TheVariants.{Two}
use Rattle.trace_text.specs.Formats.{trace_bytes}
use Rattle.trace_text.specs.Names.{names_in}
use Rattle.trace_reader.specs.Traces.{IsTrace, IsFault}
use Rattle.trace_reader.specs.declared.fault.TraceFault.TheVariants as faults
use Rattle.command_migrate.specs.declared.answer.Answer.{Answer}
use Rattle.command_migrate.specs.declared.answer.Answer.TheVariants as answers

-- the text is a trace, in either format, of a log and an end, and this is their trace in format 2
pub record IsMigrated (program : Program) (text migrated : List ℕ) : Type 0 where
  pub format : Format
  pub log : List Event
  pub ending : Ending
  pub trace : IsTrace program text format log ending
  pub printed : migrated ≡ trace_bytes (names_in program) Two log ending

-- what comes of a text: the trace in format 2, or its first line that no trace has there
abbrev pub Comes : Program → List ℕ → Answer → Type 0
Comes program text (answers.Migrated migrated) = IsMigrated program text (string_bytes migrated)
Comes program text (answers.Refused line kind) = IsFault program text (faults.Line line kind)
