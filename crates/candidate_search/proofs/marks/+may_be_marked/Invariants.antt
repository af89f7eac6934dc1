use Rattle.std.proofs.Common.{◌+◌, ◌*◌}
use Rattle.symbolic_plans.specs.declared.scheme.Scheme.{size-Scheme}
use Rattle.candidate_search.proofs.marks.+may_be_marked.Given as goal

abbrev pub decreases-may_be_marked : goal.decreases-may_be_marked
decreases-may_be_marked l = 2 * size-Scheme l.scheme.now

abbrev pub decreases-own_marked : goal.decreases-own_marked
decreases-own_marked l = 2 * size-Scheme l.part.now + 1
