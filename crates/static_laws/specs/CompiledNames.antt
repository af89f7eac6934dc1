-- Names that data have (ISO 8807, lexical tokens; and this profile).
use Rattle.std.specs.Prelude.{length}
use Rattle.spec_core.specs.Lists.{Each, NoTwo}
use Rattle.spec_core.specs.Names.{IsSameName, IsIdentifier, IsOperationName}
use Rattle.spec_core.specs.Ready.{IsSameOperation}
use Rattle.spec_core.specs.Theories.{Theory}

-- each name in the data is one that the grammar allows there, and no two items share what tells them apart
pub record IsDataNamed (theory : Theory) : Type 0 where
  pub sorts : Each IsIdentifier theory.sorts
  pub operations : Each (λ d. IsOperationName (length d.args) d.name) theory.operations
  pub variables : Each (λ e. Each IsIdentifier e.names) theory.equations
  pub sorts_differ : NoTwo IsSameName theory.sorts
  pub operations_differ : NoTwo IsSameOperation theory.operations
