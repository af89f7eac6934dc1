use Rattle.std.proofs.Common.{◌≡◌, not, map, filter, take}
use Rattle.symbolic_plans.specs.OpenPlans.{kind_in}
use Rattle.candidate_laws.specs.Sought.{is_one_kind}
use Rattle.candidate_composites.proofs.sought.without.Given as goal

abbrev pub invariant-loop-kind : goal.invariant-loop-kind
invariant-loop-kind l =
    map kind_in l.all.items ≡ filter (λ k. not (is_one_kind k (map kind_in l.others))) (map kind_in (take l.kind-index l.kinds))
