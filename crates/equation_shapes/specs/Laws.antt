-- Shapes and instances.
use Rattle.std.specs.Prelude.{ℕ, ◌≡◌, ◌↔◌}
use Rattle.spec_core.specs.Terms.{TermTree, instance}
use Rattle.spec_core.specs.Orthogonality.{IsLinear}
use Rattle.equation_shapes.specs.Shapes.{IsOfShape, Meets, HaveCommonInstance}

abbrev pub TermsOfAShapeAreInstances : Type 0
TermsOfAShapeAreInstances = (p t : TermTree) → IsLinear p → IsOfShape p t ↔ ((s : ℕ → TermTree) × (instance s p ≡ t))

abbrev pub ShapesOfOneTermMeet : Type 0
ShapesOfOneTermMeet = (p q t : TermTree) → IsOfShape p t → IsOfShape q t → Meets p q

abbrev pub LinearTermsThatMeetHaveCommonInstances : Type 0
LinearTermsThatMeetHaveCommonInstances = (p q : TermTree) → IsLinear p → IsLinear q → Meets p q ↔ HaveCommonInstance p q
