use Rattle.rule_model.specs.declared.beh.Beh.{size-Beh}
use Rattle.rule_substitution.proofs.relabelling.+tidied_copy.Given as goal

abbrev pub decreases-tidied_copy : goal.decreases-tidied_copy
decreases-tidied_copy l = size-Beh l.from.now
