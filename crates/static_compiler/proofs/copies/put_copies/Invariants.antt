use Rattle.std.proofs.Common.{◌≡◌, map, vec_len}
use Rattle.spec_core.specs.Code.{synchronised_of}
use Rattle.spec_core.specs.Numbers.{gate_number}
use Rattle.static_readings.specs.Views.{output_of}
use Rattle.static_compiler.proofs.Closed.{CopiesSoFar}
use Rattle.static_compiler.proofs.copies.put_copies.Given as goal

abbrev pub invariant-loop-to : goal.invariant-loop-to
invariant-loop-to l = record {
  code : CopiesSoFar (synchronised_of l.gates) l.part.0 l.gate.0 (map gate_number l.among.items) (map gate_number l.fn.among.items)
      (output_of l.initial.out).code (output_of l.out).code;
  refusals : (output_of l.out).refusals ≡ (output_of l.initial.out).refusals;
}

abbrev pub decreases-loop-to : goal.decreases-loop-to
decreases-loop-to l = vec_len l.among
