use Rattle.trace_reader.specs.declared.line_word.TheConstants.{REPLIES}
use Rattle.trace_reader.specs.LineWords.{reply_word}
use Rattle.trace_reader.proofs.WordsTaken.{at_reply, found}
use Rattle.trace_reader.proofs.line_word.take_reply.Goals as goal

pub returns-clause-finds : goal.returns-clause-finds
returns-clause-finds c =
    found reply_word REPLIES at_reply c.args.cursor.now c.take_first.new.cursor c.take_first.result c.take_first.ensures.takes
