use Rattle.std.proofs.Common.{◌∙◌, ap}
use Rattle.std.specs.Str.Lines.{strip_carriage_return}
use Rattle.spec_core.specs.Code.{program_of}
use Rattle.command_sim.proofs.Steps.{cut_line_end, on_err, took_line_end}
use Rattle.command_sim.proofs.answering.end_line.Goals as goal

pub returns-in_err-end-clause-err : goal.returns-in_err-end-clause-err
returns-in_err-end-clause-err g c =
    on_err c.from_residual.result _
    (cut_line_end (program_of c.args.vocabulary.now.checked.now) c.args.sim.now c.args.held.now.items c.without_carriage_return.result.now
    (g.O.Sink.written c.args.out.now) (g.O.Sink.written c.answer_line.new.out) c.requires.unended
    (c.without_carriage_return.ensures ∙ ap strip_carriage_return c.deref.ensures.value) c.in_err-end.ensures.err)

pub returns-clause-ok : goal.returns-clause-ok
returns-clause-ok g c =
    took_line_end (program_of c.args.vocabulary.now.checked.now) c.args.sim.now c.answer_line.new.sim c.args.held.now.items
    c.without_carriage_return.result.now c.clear.new.self.items (g.O.Sink.written c.args.out.now) (g.O.Sink.written c.answer_line.new.out)
    c.in_ok-end.end c.requires.unended (c.without_carriage_return.ensures ∙ ap strip_carriage_return c.deref.ensures.value)
    c.clear.ensures.items c.in_ok-end.ensures.ok
