use Rattle.std.proofs.Common.{◌≤◌}
use Rattle.spec_core.specs.Code.{program_of}
use Rattle.command_sim.specs.Simulations.{input_limit}
use Rattle.command_sim.proofs.Pieces.{Came}
use Rattle.command_sim.proofs.reading.take_all.Given as goal

abbrev pub invariant-loop : goal.invariant-loop
invariant-loop g l = record {
  came : Came (program_of l.vocabulary.checked.now) l.counter l.initial.sim input_limit (g.I.Source.rest l.initial.input)
      (g.I.Source.rest l.input) (g.O.Sink.written l.initial.out) l.sim l.held.items l.room (g.O.Sink.written l.out);
  input_faults : g.I.Source.faults l.initial.input ≤ g.I.Source.faults l.input;
  out_faults : g.O.Sink.faults l.initial.out ≤ g.O.Sink.faults l.out;
}
