use Rattle.trace_reader.specs.declared.line_word.TheConstants.{ENDS}
use Rattle.trace_reader.specs.LineWords.{ending_word}
use Rattle.trace_reader.proofs.WordsTaken.{at_end, found}
use Rattle.trace_reader.proofs.line_word.take_end.Goals as goal

pub returns-clause-finds : goal.returns-clause-finds
returns-clause-finds c =
    found ending_word ENDS at_end c.args.cursor.now c.take_first.new.cursor c.take_first.result c.take_first.ensures.takes
