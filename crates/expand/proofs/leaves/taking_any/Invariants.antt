use Rattle.std.proofs.Common.{◌≡◌, map, take}
use Rattle.spec_core.specs.Code.{exit_value_of}
use Rattle.symbolic_plans.specs.OwnPlans.{takes_any}
use Rattle.expand.proofs.leaves.taking_any.Given as goal

abbrev pub invariant-loop-field : goal.invariant-loop-field
invariant-loop-field l = l.all.items ≡ map takes_any (map exit_value_of (take l.field-index l.fields))
