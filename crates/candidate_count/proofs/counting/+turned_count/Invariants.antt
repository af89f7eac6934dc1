use Rattle.symbolic_plans.specs.declared.scheme.Scheme.{size-Scheme}
use Rattle.candidate_count.proofs.counting.+turned_count.Given as goal

abbrev pub decreases-turned_count : goal.decreases-turned_count
decreases-turned_count l = size-Scheme l.scheme.now
