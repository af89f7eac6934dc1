use Rattle.rule_model.specs.declared.rules.Rules.{size-Rules}
use Rattle.candidate_search.proofs.marks.+has_mark.Given as goal

abbrev pub decreases-has_mark : goal.decreases-has_mark
decreases-has_mark l = size-Rules l.tree.now
