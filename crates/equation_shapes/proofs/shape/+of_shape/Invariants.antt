use Rattle.std.proofs.Common.{map, take}
use Rattle.equation_shapes.specs.Shapes.{AreOfShape}
use Rattle.spec_core.specs.Terms.{term_of, terms}
use Rattle.equation_shapes.proofs.shape.+of_shape.Given as goal

abbrev pub invariant-are_of_shape-loop-i : goal.invariant-are_of_shape-loop-i
invariant-are_of_shape-loop-i l = AreOfShape (terms (map term_of (take l.i l.shapes))) (terms (map term_of (take l.i l.all)))
