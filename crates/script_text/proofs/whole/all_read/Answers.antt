use Rattle.std.proofs.Common.{rules}
use Rattle.script_text.proofs.WholeTexts.{stopped_unread}
use Rattle.script_text.proofs.whole.all_read.Goals as goal

pub returns-in-Err-Stopped-clause-none : goal.returns-in-Err-Stopped-clause-none
returns-in-Err-Stopped-clause-none g c = λ tree k.
    stopped_unread c.in-Err-Stopped.field-0 c.in-Err-Stopped.field-0-0 _ g.I.Item.syntax c.args.tokens.now c.new-cursor.result c.read.new.cursor
    c.in-Err-Stopped.field-0-is c.in-Err-Stopped.ensures.halts (search rules) (search rules) tree k
