use Rattle.std.proofs.Common.{◌≤◌, take, None}
use Rattle.spec_core.specs.Code.{program_of}
use Rattle.command_lines.specs.Lines.{IsUnended}
use Rattle.command_sim.specs.Steps.{TookBytes}
use Rattle.command_sim.proofs.answering.take_bytes.Given as goal

abbrev pub invariant-loop-byte : goal.invariant-loop-byte
invariant-loop-byte g l = record {
  took : TookBytes (program_of l.vocabulary.checked.now) l.initial.sim l.initial.held.items (take l.byte-index l.bytes)
      (g.O.Sink.written l.initial.out) l.sim l.held.items (g.O.Sink.written l.out) None;
  unended : IsUnended l.held.items;
  never_fewer : g.O.Sink.faults l.initial.out ≤ g.O.Sink.faults l.out;
}
