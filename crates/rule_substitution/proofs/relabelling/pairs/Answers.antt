use Rattle.std.proofs.Common.{arith}
use Rattle.rule_substitution.proofs.Pairing.{no_more}
use Rattle.rule_substitution.proofs.relabelling.pairs.Goals as goal

pub returns-in-empty : goal.returns-in-empty
returns-in-empty c = record { pairs = no_more _ _ _ _ (omega (arith, c.in-empty.len_below)) c.loop-first.invariant }
