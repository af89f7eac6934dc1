use Rattle.trace_reader.specs.declared.line_word.TheConstants.{ENTRIES}
use Rattle.trace_reader.specs.LineWords.{entry_word}
use Rattle.trace_reader.proofs.WordsTaken.{at_entry, found}
use Rattle.trace_reader.proofs.line_word.take_entry.Goals as goal

pub returns-clause-finds : goal.returns-clause-finds
returns-clause-finds c =
    found entry_word ENTRIES at_entry c.args.cursor.now c.take_first.new.cursor c.take_first.result c.take_first.ensures.takes
