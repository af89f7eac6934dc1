use Rattle.std.proofs.Common.{◌∙◌}
use Rattle.spec_core.specs.Code.{program_of}
use Rattle.command_sim.proofs.Steps.{answered_by, cut_prefix, on_err}
use Rattle.command_sim.proofs.answering.answer.Goals as goal

pub returns-in_err-write_all-clause-err : goal.returns-in_err-write_all-clause-err
returns-in_err-write_all-clause-err g c =
    let program = program_of c.args.vocabulary.now.checked.now in
    let text = c.as_bytes.result.now in
    let said = answered_by program c.args.sim.now c.step-came.new.self c.args.line.now c.step-came.result text c.end_by-end.result
    c.step-came.ensures.answer c.step-came.ensures.fault c.in_ok-text.ensures.answered (c.as_bytes.ensures.value ∙ c.in_ok-text.ensures.text)
    c.end_by-end.ensures in
    on_err c.from_residual-in_err-write_all.result _
    (cut_prefix program c.args.sim.now c.step-came.new.self c.args.line.now text (g.O.Sink.written c.args.out.now)
    (g.O.Sink.written c.write_all.new.sink) c.end_by-end.result said c.in_err-write_all.ensures.prefix)
