use Rattle.std.proofs.Common.{rules}
use Rattle.std.proofs.lemmas.Result.{IfErr-weaker}
use Rattle.simulator_lines.specs.Lines.{IsLine, asked_of}
use Rattle.board_core.specs.Views.{program}
use Rattle.simulator.proofs.Lines.{explained}
use Rattle.simulator.proofs.sim.Sim.step.Goals as goal

pub returns-in-Ok-Some-clause-fault : goal.returns-in-Ok-Some-clause-fault
returns-in-Ok-Some-clause-fault c =
    let line : IsLine (program c.args.self.now.board) c.args.text.now (asked_of c.in-Ok-Some.line) = search rules in
    IfErr-weaker c.answer.result _ _
    (λ e h. explained c.args.self.now c.answer.new.self c.args.text.now (asked_of c.in-Ok-Some.line) line e h)
    c.answer.ensures.fault
