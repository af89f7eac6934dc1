use Rattle.std.proofs.Common.{◌≡◌, map, take}
use Rattle.spec_core.specs.Code.{Relabelling, relabelling_of}
use Rattle.rule_model.specs.Actions.{at_gate}
use Rattle.symbolic_plans.specs.OpenPlans.{kind_in}
use Rattle.candidate_composites.proofs.sought.at_named.Given as goal

abbrev pub invariant-loop-pair : goal.invariant-loop-pair
invariant-loop-pair l =
    map kind_in l.all.items ≡ map (λ (m : Relabelling). at_gate m.from) (map relabelling_of (take l.pair-index l.pairs))
