use Rattle.std.proofs.Common.{length}
use Rattle.rule_substitution.proofs.relabelling.+renamed_gate.Given as goal

abbrev pub decreases-renamed_gate : goal.decreases-renamed_gate
decreases-renamed_gate l = length l.pairs.now
