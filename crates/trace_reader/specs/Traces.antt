-- Traces as they are read: which text is the trace of which log and end, and which line of any other text is the first bad one
-- (docs/FORMATS.md, "Traces").
use Rattle.std.specs.Prelude.{ℕ, ◌+◌, ◌<◌, ◌≤◌, ◌≡◌, List, ◌++◌, codes, length}
use Rattle.lotos_ast.specs.declared.text_kind.TextKind.{TextKind}
use Rattle.lotos_ast.specs.declared.text_kind.TextKind.TheVariants.{Long, Form}
use Rattle.spec_core.specs.Code.{Program}
use Rattle.spec_core.specs.Lists.{Each}
use Rattle.rule_model.specs.Events.{Event, Ending}
use Rattle.trace_text.specs.declared.format.Format.{Format}
use Rattle.trace_text.specs.Fits.{HasTrace}
use Rattle.trace_text.specs.Formats.{trace_bytes}
use Rattle.trace_text.specs.Names.{names_in}
use Rattle.trace_reader.specs.Lines.{IsOneLine, lines_text}
use Rattle.trace_reader.specs.declared.fault.TraceFault.{TraceFault}
use Rattle.trace_reader.specs.declared.fault.TraceFault.TheVariants.{Line, Memory}

-- the greatest number of bytes in a trace, 2^26
abbrev pub trace_limit : ℕ
trace_limit = 67108864

-- the text is the trace, in this format, of this log and this end
pub record IsTrace (program : Program) (text : List ℕ) (format : Format) (log : List Event) (ending : Ending) : Type 0 where
  pub has : HasTrace program log ending
  pub spelled : text ≡ trace_bytes (names_in program) format log ending
  pub short : length text ≤ trace_limit

-- the trace of some log and end, in some format, begins with this text
pub record GoesOn (program : Program) (text : List ℕ) : Type 0 where
  pub format : Format
  pub log : List Event
  pub ending : Ending
  pub behind : List ℕ
  pub has : HasTrace program log ending
  pub begins : trace_bytes (names_in program) format log ending ≡ text ++ behind

-- behind these lines of a text, nothing right comes: no trace goes on with the next line; or there is no further line, and the text is no
-- trace
pub data IsBadBehind (program : Program) (text before after : List ℕ) : Type 0 where
  bad_line : (line rest : List ℕ) → after ≡ line ++ (codes "\n" ++ rest) → IsOneLine line →
      (GoesOn program (before ++ (line ++ codes "\n")) → ⊥) → IsBadBehind program text before after
  ends_early : IsOneLine after → ((format : Format) (log : List Event) (ending : Ending) → IsTrace program text format log ending → ⊥) →
      IsBadBehind program text before after

-- the line of this number, counted from 1, is the first with which no trace goes on; where the text ends too early, it is the line behind
-- its last
pub record IsFirstBad (program : Program) (text : List ℕ) (number : ℕ) : Type 0 where
  pub before : List (List ℕ)
  pub after : List ℕ
  pub parts : text ≡ lines_text before ++ after
  pub lines : Each IsOneLine before
  pub counted : number ≡ length before + 1
  pub goes_on : GoesOn program (lines_text before)
  pub bad : IsBadBehind program text (lines_text before) after

-- why a text isn't read: it is too long, with line 0; or the first bad line
pub data IsLineFault (program : Program) (text : List ℕ) (number : ℕ) (kind : TextKind) : Type 0 where
  too_long : trace_limit < length text → number ≡ 0 → kind ≡ Long → IsLineFault program text number kind
  bad_form : length text ≤ trace_limit → kind ≡ Form → IsFirstBad program text number → IsLineFault program text number kind

abbrev pub IsFault : Program → List ℕ → TraceFault → Type 0
IsFault program text (Line number kind) = IsLineFault program text number kind
IsFault program text Memory = Unit {0}
