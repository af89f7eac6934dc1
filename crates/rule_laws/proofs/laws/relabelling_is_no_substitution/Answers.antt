use Rattle.rule_laws.proofs.Rows.{relabelling_is_no_substitution}
use Rattle.rule_laws.proofs.laws.relabelling_is_no_substitution.Goals as goal

pub returns : goal.returns
returns c = relabelling_is_no_substitution
