-- Data that can be run: each ground term has one value, which evaluation reaches.
use Rattle.spec_core.specs.Theories.{Theory}
use Rattle.spec_core.specs.Sorts.{FitsData}
use Rattle.spec_core.specs.Orthogonality.{IsOrthogonal}
use Rattle.spec_core.specs.Order.{IsDecreasing}

pub record IsExecutable (theory : Theory) : Type 0 where
  pub fits : FitsData theory
  pub orthogonal : IsOrthogonal theory
  pub decreasing : IsDecreasing theory
