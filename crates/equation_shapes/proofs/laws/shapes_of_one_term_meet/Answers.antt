use Rattle.equation_shapes.proofs.Linear.{both_shapes}
use Rattle.equation_shapes.proofs.laws.shapes_of_one_term_meet.Goals as goal

pub returns : goal.returns
returns c = both_shapes
