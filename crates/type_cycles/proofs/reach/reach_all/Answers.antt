use Rattle.std.proofs.Common.{get_or}
use Rattle.std.proofs.lemmas.List.{get_or_default}
use Rattle.type_cycles.proofs.Reaching.{marks_next}
use Rattle.type_cycles.proofs.reach.reach_all.Goals as goal

pub loop-number-preserved : goal.loop-number-preserved
loop-number-preserved c = record {
  as_many = c.reach.ensures.as_many;
  marks = marks_next c.args.links.now c.args.types.now c.loop-number.number-index _ _ _ _ _ _ c.loop-number-test.true (get_or_default c.args.types.now c.loop-number.number-index 0 (get_or c.args.types.now c.loop-number.number-index 0) c.loop-number-test.true) c.loop-number.invariant.marks c.in_ok-reach.ensures.reached;
}
