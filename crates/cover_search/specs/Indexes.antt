-- What is looked up in data.
use Rattle.spec_core.specs.Theories.{Theory}
use Rattle.cover_search.specs.Constructors.{IsConstructorIndexOf}
use Rattle.cover_search.specs.Heads.{IsHeadIndexOf}
use Rattle.cover_search.specs.Lefts.{IsLeftIndexOf}
use Rattle.cover_search.specs.Sorts.{AreInhabited}
use Rattle.cover_search.specs.declared.index.DataIndex.{DataIndex}

-- the index has the equations of each operation and of each left side, the constructors of each sort, and the sorts that have a value
pub record IsIndexOf (index : DataIndex) (theory : Theory) : Type 0 where
  pub heads : IsHeadIndexOf index.heads theory.equations
  pub lefts : IsLeftIndexOf index.lefts theory.equations
  pub constructors : IsConstructorIndexOf index.constructors theory
  pub inhabited : AreInhabited theory index.inhabited
