use Rattle.std.proofs.Common.{◌≡◌, ◌++◌, drop, map}
use Rattle.spec_core.specs.Code.{relabelling_of}
use Rattle.spec_core.specs.Numbers.{gate_number}
use Rattle.rule_model.specs.Actions.{pairs_of}
use Rattle.rule_substitution.proofs.relabelling.pairs.Given as goal

abbrev pub invariant-loop-first : goal.invariant-loop-first
invariant-loop-first l =
    map relabelling_of l.all.items ++ pairs_of (map gate_number (drop l.first-index l.formal)) (map gate_number l.others) ≡
    pairs_of (map gate_number l.formal) (map gate_number l.actual)
