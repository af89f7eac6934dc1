use Rattle.std.proofs.Common.{◌≡◌, ◌<◌, fold, take}
use Rattle.candidate_verdicts.specs.Keys.{slot_key}
use Rattle.candidate_verdicts.proofs.key.slots_key.Given as goal

abbrev pub invariant-loop-slot : goal.invariant-loop-slot
invariant-loop-slot l = record {
  number : l.now ≡ fold slot_key l.before (take l.slot-index l.slots);
  bound : l.now < 4294967296;
}
