use Rattle.std.proofs.Common.{◌≡◌, ◌++◌, map, filter, take}
use Rattle.symbolic_plans.specs.OpenPlans.{kind_in}
use Rattle.candidate_laws.specs.Sought.{becomes_one}
use Rattle.candidate_composites.specs.Known.{step_of}
use Rattle.candidate_composites.proofs.sought.put_becoming.Given as goal

abbrev pub invariant-loop-kind : goal.invariant-loop-kind
invariant-loop-kind l =
    map kind_in l.all.items ≡
    map kind_in l.initial.all.items ++
    filter (becomes_one (step_of l.step) (map kind_in l.others)) (map kind_in (take l.kind-index l.kinds))
