use Rattle.std.proofs.Common.{◌≡◌, ◌++◌, List, map, length, vec_len}
use Rattle.spec_core.specs.Code.{Node}
use Rattle.static_readings.specs.Joins.{Read}
use Rattle.static_readings.specs.Views.{output_of}
use Rattle.static_compiler.specs.Views.{maker_of}
use Rattle.static_compiler.proofs.Closed.{LayersSoFar}
use Rattle.static_compiler.proofs.closing.put_layers.Given as goal

abbrev pub invariant-loop-layer : goal.invariant-loop-layer
invariant-loop-layer l = record {
  code : (base : List Node) (r : Read) → (output_of l.initial.out).code ≡ base ++ r.nodes →
      LayersSoFar base (map maker_of l.all.items) (map maker_of l.fn.all.items) r (output_of l.out).code;
  refusals : (output_of l.out).refusals ≡ (output_of l.initial.out).refusals;
}

abbrev pub decreases-loop-layer : goal.decreases-loop-layer
decreases-loop-layer l = vec_len l.all
