use Rattle.symbolic_rules.proofs.Offering.{empty_sort}
use Rattle.symbolic_rules.proofs.examples.empty_sort.Goals as goal

pub returns : goal.returns
returns c = empty_sort
