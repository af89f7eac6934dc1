use Rattle.std.proofs.Common.{map, take}
use Rattle.spec_core.specs.Theories.{equation_of}
use Rattle.sort_overloads.specs.Views.{context_of}
use Rattle.static_equations.specs.Bodies.{AreEquationsJudged}
use Rattle.static_equations.specs.Gathered.{AddsBoth}
use Rattle.static_equations.proofs.body.add_equations.Given as goal

abbrev pub invariant-loop-equation : goal.invariant-loop-equation
invariant-loop-equation l =
    AddsBoth (AreEquationsJudged (context_of l.scope) l.sort (take l.equation-index l.equations)) (map equation_of l.fn.all.items) (map equation_of l.all.items) l.fn.refusals.items l.refusals.items
