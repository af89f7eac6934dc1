use Rattle.std.proofs.Common.{◌≡◌, ◌<◌, fold, map, take}
use Rattle.spec_core.specs.Numbers.{op_number}
use Rattle.candidate_verdicts.specs.Keys.{mixed}
use Rattle.candidate_verdicts.proofs.key.operations_key.Given as goal

abbrev pub invariant-loop-op : goal.invariant-loop-op
invariant-loop-op l = record {
  number : l.now ≡ fold mixed l.before (map op_number (take l.op-index l.ops));
  bound : l.now < 4294967296;
}
