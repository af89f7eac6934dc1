-- What the program's values stand for.
use Rattle.spec_core.specs.Theories.{operations_of}
use Rattle.sort_overloads.specs.declared.scope.Scope.{Scope}
pub use Rattle.sort_overloads.specs.Variables.{declared_of}
use Rattle.sort_overloads.specs.Readings.{Context}

abbrev pub context_of : Scope → Context
context_of s = record {
  sorts = s.signature.sorts.items;
  operations = operations_of s.signature;
  variables = s.vars;
}
