use Rattle.std.proofs.Common.{arith, subst}
use Rattle.spec_core.specs.Code.{program_of}
use Rattle.command_lines.specs.Inputs.{inlet}
use Rattle.command_sim.specs.Simulations.{input_limit}
use Rattle.command_sim.specs.Steps.{TookPiece}
use Rattle.command_sim.proofs.Pieces.{all_cut, all_taken, one_more}
use Rattle.command_sim.proofs.Steps.{on_err}
use Rattle.command_sim.proofs.reading.take_all.Goals as goal

pub returns-in_err-end-clause-err : goal.returns-in_err-end-clause-err
returns-in_err-end-clause-err g c =
    let rest = g.I.Source.rest in
    let faults = g.I.Source.faults in
    on_err c.from_residual.result _
    (all_cut (program_of c.args.vocabulary.now.checked.now) c.loop.counter c.args.sim.now c.loop.sim input_limit c.loop.room
    (rest c.args.input.now) (rest c.loop.input) (rest c.take_piece.new.input) (g.O.Sink.written c.args.out.now) (g.O.Sink.written c.loop.out)
    c.loop.held.items (faults c.args.input.now) (faults c.loop.input) (faults c.take_piece.new.input) c.loop.invariant.came
    c.loop.invariant.input_faults (g.O.Sink.written c.take_piece.new.out) c.in_err-end.ensures.err)

pub returns-in-Some-clause-ok : goal.returns-in-Some-clause-ok
returns-in-Some-clause-ok g c =
    let program = program_of c.args.vocabulary.now.checked.now in
    let rest = g.I.Source.rest in
    let faults = g.I.Source.faults in
    let middle = g.O.Sink.written c.loop.out in
    let after = g.O.Sink.written c.take_piece.new.out in
    let input = inlet (rest c.loop.input) (rest c.take_piece.new.input) (faults c.loop.input) (faults c.take_piece.new.input) in
    let took = subst (TookPiece program c.loop.sim c.loop.held.items c.loop.room input middle c.take_piece.new.sim c.take_piece.new.held.items
    c.take_piece.new.room after) c.in-Some.is c.in_ok-end.ensures.ok in
    all_taken program c.loop.counter c.args.sim.now c.loop.sim input_limit c.loop.room (rest c.args.input.now) (rest c.loop.input)
    (rest c.take_piece.new.input) (g.O.Sink.written c.args.out.now) middle c.loop.held.items (faults c.args.input.now) (faults c.loop.input)
    (faults c.take_piece.new.input) c.loop.invariant.came c.loop.invariant.input_faults c.take_piece.new.sim c.take_piece.new.held.items
    c.take_piece.new.room after c.in-Some.end took

pub loop-preserved : goal.loop-preserved
loop-preserved g c =
    let program = program_of c.args.vocabulary.now.checked.now in
    let rest = g.I.Source.rest in
    let faults = g.I.Source.faults in
    let middle = g.O.Sink.written c.loop.out in
    let after = g.O.Sink.written c.take_piece.new.out in
    let input = inlet (rest c.loop.input) (rest c.take_piece.new.input) (faults c.loop.input) (faults c.take_piece.new.input) in
    let took = subst (TookPiece program c.loop.sim c.loop.held.items c.loop.room input middle c.take_piece.new.sim c.take_piece.new.held.items
    c.take_piece.new.room after) c.in_default.is c.in_ok-end.ensures.ok in
    record {
      came = one_more program c.loop.counter c.args.sim.now c.loop.sim input_limit c.loop.room (rest c.args.input.now) (rest c.loop.input)
          (rest c.take_piece.new.input) (g.O.Sink.written c.args.out.now) middle c.loop.held.items (faults c.args.input.now)
          (faults c.loop.input) (faults c.take_piece.new.input) c.loop.invariant.came c.take_piece.new.sim c.take_piece.new.held.items
          c.take_piece.new.room after took;
      input_faults = omega (arith, c.loop.invariant.input_faults, c.take_piece.ensures.input_faults);
      out_faults = omega (arith, c.loop.invariant.out_faults, c.take_piece.ensures.never_fewer);
    }
