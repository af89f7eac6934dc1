use Rattle.std.proofs.Common.{◌≡◌, map, take}
use Rattle.spec_core.specs.Numbers.{gate_number}
use Rattle.spec_core.specs.Code.{relabelling_of}
use Rattle.rule_model.specs.Actions.{renamed}
use Rattle.rule_substitution.proofs.relabelling.renamed_gates.Given as goal

abbrev pub invariant-loop-gate : goal.invariant-loop-gate
invariant-loop-gate l =
    map gate_number l.all.items ≡ map (renamed (map relabelling_of l.pairs)) (map gate_number (take l.gate-index l.gates))
