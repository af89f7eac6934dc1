use Rattle.rule_code.proofs.parts.+open_part.Given as goal

abbrev pub decreases-open_part : goal.decreases-open_part
decreases-open_part l = l.part
