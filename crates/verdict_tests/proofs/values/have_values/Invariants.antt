use Rattle.std.proofs.Common.{take}
use Rattle.spec_core.specs.Lists.{Each}
use Rattle.match_code.specs.Prepared.{program_in}
use Rattle.node_verdict.specs.Choosing.{ChoosesValue}
use Rattle.verdict_tests.proofs.values.have_values.Given as goal

abbrev pub invariant-loop-slot : goal.invariant-loop-slot
invariant-loop-slot l = Each (ChoosesValue (program_in l.prepared).theory) (take l.slot-index l.slots)
