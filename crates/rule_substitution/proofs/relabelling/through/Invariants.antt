use Rattle.std.proofs.Common.{◌≡◌, map, take}
use Rattle.spec_core.specs.Code.{relabelling_of}
use Rattle.rule_model.specs.Actions.{renamed}
use Rattle.rule_substitution.proofs.relabelling.through.Given as goal

abbrev pub invariant-loop-pair : goal.invariant-loop-pair
invariant-loop-pair l =
    map relabelling_of l.all.items ≡
    map (λ m. record { from = m.from; to = renamed (map relabelling_of l.pairs) m.to }) (map relabelling_of (take l.pair-index l.before))
