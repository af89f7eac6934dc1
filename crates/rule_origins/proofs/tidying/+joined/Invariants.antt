use Rattle.rule_origins.proofs.tidying.+joined.Given as goal

abbrev pub decreases-joined : goal.decreases-joined
decreases-joined l = l.number
