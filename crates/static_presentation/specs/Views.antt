-- What the program's values stand for.
use Rattle.std.specs.Prelude.{List, Vec, map}
use Rattle.std.specs.declared.alloc.Global.{Global}
use Rattle.spec_core.specs.declared.equation.Equation.{Equation}
use Rattle.spec_core.specs.Theories.{ConditionalEquation, equation_of}

abbrev pub equations_of : Vec Equation Global → List ConditionalEquation
equations_of all = map equation_of all.items
