use Rattle.std.proofs.Common.{rules}
use Rattle.std.proofs.lemmas.Result.{on_err_weaker}
use Rattle.spec_core.specs.Code.{program_of}
use Rattle.command_sim.proofs.Steps.{cut_some}
use Rattle.command_sim.proofs.answering.answer_line.Goals as goal

pub returns-in_default-clause-err : goal.returns-in_default-clause-err
returns-in_default-clause-err g c =
    on_err_weaker c.answer.result (λ h. cut_some (program_of c.args.vocabulary.now.checked.now) c.args.sim.now c.args.line.now
    (g.O.Sink.written c.args.out.now) (g.O.Sink.written c.answer.new.out) (search rules) h) c.answer.ensures.err
