-- Being apart, and common instances.
use Rattle.std.specs.Prelude.{ℕ, ◌≡◌}
use Rattle.spec_core.specs.Orthogonality.{IsLinear, HasNoLooseVariables, AreApart}
use Rattle.spec_core.specs.Terms.{TermTree, instance}
use Rattle.spec_core.specs.Theories.{ConditionalEquation, Theory}
use Rattle.equation_shapes.specs.Shapes.{IsOfShape, Meets}
use Rattle.equation_overlaps.specs.Common.{common_instance}

abbrev pub BeingApartIsSymmetric : Type 0
BeingApartIsSymmetric =
    (theory : Theory) (e d : ConditionalEquation) → IsLinear e.left → IsLinear d.left → HasNoLooseVariables e → HasNoLooseVariables d →
    AreApart theory e d → AreApart theory d e

abbrev pub CommonInstancesAreInstances : Type 0
CommonInstancesAreInstances =
    (n : ℕ) (p q : TermTree) → IsLinear p → IsLinear q → Meets p q →
    ((s : ℕ → TermTree) × (instance s p ≡ common_instance n p q)) × ((z : ℕ → TermTree) × (instance z q ≡ common_instance n p q))

-- what is of the shape of both is of the common instance's
abbrev pub CommonInstancesAreMostGeneral : Type 0
CommonInstancesAreMostGeneral = (n : ℕ) (p q t : TermTree) → IsOfShape p t → IsOfShape q t → IsOfShape (common_instance n p q) t
