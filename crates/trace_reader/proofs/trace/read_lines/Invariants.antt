use Rattle.std.proofs.Common.{◌++◌, length}
use Rattle.rule_model.specs.Logs.{events_of}
use Rattle.spec_core.specs.Code.{program_of}
use Rattle.trace_text.specs.Formats.{first_line}
use Rattle.trace_reader.specs.Reading.{Follows, HasRead}
use Rattle.trace_reader.proofs.trace.read_lines.Given as goal

abbrev pub invariant-lines : goal.invariant-lines
invariant-lines l =
    HasRead (program_of l.vocabulary.checked.now) l.fn.format (first_line l.fn.format ++ l.lines) (events_of l.log) l.rest
    × Follows (program_of l.vocabulary.checked.now) l.fn.format (events_of l.log) l.before

abbrev pub decreases-lines : goal.decreases-lines
decreases-lines l = length l.rest
