use Rattle.std.proofs.Common.{subst}
use Rattle.spec_core.specs.Code.{program_of}
use Rattle.command_sim.specs.Steps.{TookLine}
use Rattle.command_sim.proofs.Steps.{last_cut, last_done, last_ends, on_err}
use Rattle.command_sim.proofs.reading.take_last.Goals as goal

pub returns-in_err-end-clause-err : goal.returns-in_err-end-clause-err
returns-in_err-end-clause-err g c =
    on_err c.from_residual.result _
    (last_cut (program_of c.args.vocabulary.now.checked.now) c.args.sim.now c.args.held.now (g.O.Sink.written c.args.out.now)
    (g.O.Sink.written c.answer_line.new.out) c.requires.unended c.in_err-end.ensures.err)

pub returns-in-Some-clause-ok : goal.returns-in-Some-clause-ok
returns-in-Some-clause-ok g c =
    let program = program_of c.args.vocabulary.now.checked.now in
    let before = g.O.Sink.written c.args.out.now in
    let after = g.O.Sink.written c.answer_line.new.out in
    last_ends program c.args.sim.now c.answer_line.new.sim c.args.held.now before after c.in-Some.end c.requires.unended
    (subst (TookLine program c.args.sim.now c.args.held.now before c.answer_line.new.sim after) c.in-Some.is c.in_ok-end.ensures.ok)

pub returns-in-None-clause-ok : goal.returns-in-None-clause-ok
returns-in-None-clause-ok g c =
    let program = program_of c.args.vocabulary.now.checked.now in
    let before = g.O.Sink.written c.args.out.now in
    let after = g.O.Sink.written c.answer_line.new.out in
    last_done program c.args.sim.now c.answer_line.new.sim c.args.held.now before after c.requires.unended
    (subst (TookLine program c.args.sim.now c.args.held.now before c.answer_line.new.sim after) c.in-None.is c.in_ok-end.ensures.ok)
