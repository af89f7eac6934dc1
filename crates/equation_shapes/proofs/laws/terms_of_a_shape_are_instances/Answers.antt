use Rattle.std.proofs.Common.{subst}
use Rattle.equation_shapes.specs.Shapes.{IsOfShape}
use Rattle.equation_shapes.proofs.Linear.{filled, of_shape}
use Rattle.equation_shapes.proofs.laws.terms_of_a_shape_are_instances.Goals as goal

pub returns : goal.returns
returns c p t linear = (filled p t linear, λ r. subst (IsOfShape p) r.1 (of_shape r.0 p))
