use Rattle.std.proofs.Common.{◌≡◌, map, take}
use Rattle.spec_core.specs.Code.{action_field_of}
use Rattle.symbolic_plans.specs.OwnPlans.{takes_value}
use Rattle.expand.proofs.leaves.taking.Given as goal

abbrev pub invariant-loop-field : goal.invariant-loop-field
invariant-loop-field l = l.all.items ≡ map takes_value (map action_field_of (take l.field-index l.fields))
