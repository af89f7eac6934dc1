use Rattle.equation_shapes.proofs.Linear.{united, have_meet}
use Rattle.equation_shapes.proofs.laws.linear_terms_that_meet_have_common_instances.Goals as goal

pub returns : goal.returns
returns c p q left right = (united p q left right, have_meet p q)
