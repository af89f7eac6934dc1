-- What the program's values stand for.
use Rattle.std.specs.Prelude.{Option, Some, None}
use Rattle.std.proofs.Common.{Bor}
use Rattle.spec_core.specs.declared.equation.Equation.{Equation}
use Rattle.spec_core.specs.Terms.{constant}
use Rattle.spec_core.specs.Theories.{ConditionalEquation, equation_of}
use Rattle.sort_overloads.specs.declared.variables.Variable.{Variable}
use Rattle.sort_overloads.specs.Listed.{Typed}
use Rattle.sort_overloads.specs.Readings.{Declared}
use Rattle.sort_overloads.specs.Views.{declared_of}
use Rattle.static_equations.specs.declared.truth.Constant.{Constant}

abbrev pub truth_of : Option Constant → Option Typed
truth_of None = None
truth_of (Some c) = Some (record { term = constant c.op.0; sort = c.sort.0 })

abbrev pub equation_if_read : Option Equation → Option ConditionalEquation
equation_if_read None = None
equation_if_read (Some e) = Some (equation_of e)

abbrev pub declared_at : Bor Variable → Declared
declared_at v = declared_of v.now
