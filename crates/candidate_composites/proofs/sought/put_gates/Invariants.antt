use Rattle.std.proofs.Common.{◌≡◌, ◌++◌, map, take}
use Rattle.spec_core.specs.Numbers.{gate_number}
use Rattle.rule_model.specs.Actions.{at_gate}
use Rattle.symbolic_plans.specs.OpenPlans.{kind_in}
use Rattle.candidate_composites.proofs.sought.put_gates.Given as goal

abbrev pub invariant-loop-gate : goal.invariant-loop-gate
invariant-loop-gate l =
    map kind_in l.all.items ≡ map kind_in l.initial.all.items ++ map at_gate (map gate_number (take l.gate-index l.gates))
