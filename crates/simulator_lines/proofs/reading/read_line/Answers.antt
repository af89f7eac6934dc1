use Rattle.spec_core.specs.Code.{program_of}
use Rattle.simulator_lines.proofs.OneLine.{long_answer, only_answer}
use Rattle.simulator_lines.proofs.reading.read_line.Goals as goal

pub returns-clause-spelled : goal.returns-clause-spelled
returns-clause-spelled c = long_answer (program_of c.args.checked.now) c.args.text.now c.long_line.result c.long_line.ensures.spelled

pub returns-clause-only : goal.returns-clause-only
returns-clause-only c = only_answer (program_of c.args.checked.now) c.args.text.now c.long_line.result c.long_line.ensures.spelled
