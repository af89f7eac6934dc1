use Rattle.std.proofs.Common.{[], inr, subst}
use Rattle.std.proofs.lemmas.Result.{IfOk-weaker}
use Rattle.spec_core.specs.Code.{program_of}
use Rattle.lotos_outside.specs.declared.sink.SinkFault.TheVariants.{Failed, Memory}
use Rattle.command_lines.specs.Inputs.{inlet}
use Rattle.command_sim.specs.Simulations.{input_limit}
use Rattle.command_sim.specs.Steps.{CutPiece, TookAll}
use Rattle.command_sim.proofs.Pieces.{by_error, cut_by, simulated_by}
use Rattle.command_sim.proofs.reading.simulate.Goals as goal

pub returns-clause-ok : goal.returns-clause-ok
returns-clause-ok g c =
    let program = program_of c.args.checked.now in
    let rest = g.I.Source.rest in
    let faults = g.I.Source.faults in
    let input = inlet (rest c.args.input.now) (rest c.take_all.new.input) (faults c.args.input.now) (faults c.take_all.new.input) in
    let before = g.O.Sink.written c.args.out.now in
    let after = g.O.Sink.written c.take_all.new.out in
    let sim = c.in_ok-sim.sim in
    IfOk-weaker c.take_all.result _ _ (λ end h. simulated_by program c.args.settings sim input before after end
    (c.in_ok-copy.field-0, c.in_ok-copy.ensures.equal, c.in_ok-sim.ensures.begun)
    (subst (λ p. TookAll p sim [] input_limit input before after end) c.in_ok-vocabulary.ensures.same h)) c.take_all.ensures.ok

pub returns-clause-cut : goal.returns-clause-cut
returns-clause-cut g c = λ is.
    let program = program_of c.args.checked.now in
    let rest = g.I.Source.rest in
    let faults = g.I.Source.faults in
    let input = inlet (rest c.args.input.now) (rest c.take_all.new.input) (faults c.args.input.now) (faults c.take_all.new.input) in
    let before = g.O.Sink.written c.args.out.now in
    let after = g.O.Sink.written c.take_all.new.out in
    let sim = c.in_ok-sim.sim in
    cut_by program c.args.settings sim input before after (c.in_ok-copy.field-0, c.in_ok-copy.ensures.equal, c.in_ok-sim.ensures.begun)
    (subst (λ p. CutPiece p sim [] input_limit input before after) c.in_ok-vocabulary.ensures.same
    (by_error c.take_all.result Failed _ c.take_all.ensures.err is))

pub returns-clause-memory : goal.returns-clause-memory
returns-clause-memory g c = λ is.
    let program = program_of c.args.checked.now in
    let rest = g.I.Source.rest in
    let faults = g.I.Source.faults in
    let input = inlet (rest c.args.input.now) (rest c.take_all.new.input) (faults c.args.input.now) (faults c.take_all.new.input) in
    let before = g.O.Sink.written c.args.out.now in
    let after = g.O.Sink.written c.take_all.new.out in
    let sim = c.in_ok-sim.sim in
    inr (cut_by program c.args.settings sim input before after (c.in_ok-copy.field-0, c.in_ok-copy.ensures.equal, c.in_ok-sim.ensures.begun)
    (subst (λ p. CutPiece p sim [] input_limit input before after) c.in_ok-vocabulary.ensures.same
    (by_error c.take_all.result Memory _ c.take_all.ensures.err is)))
