use Rattle.trace_reader.proofs.Steps.{no_format}
use Rattle.trace_reader.proofs.trace.first_format.Goals as goal

pub returns-in-None-behind_first : goal.returns-in-None-behind_first
returns-in-None-behind_first c = no_format c.args.text.now c.in-None.ensures c.in-None-behind_first.ensures
