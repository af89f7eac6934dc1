use Rattle.std.proofs.Common.{[], map, take}
use Rattle.spec_core.specs.Theories.{premise_of}
use Rattle.sort_overloads.specs.Views.{context_of}
use Rattle.static_equations.specs.Gathered.{AddsBoth}
use Rattle.static_equations.specs.Equations.{ArePremissesJudged}
use Rattle.static_equations.proofs.equation.judge_premisses.Given as goal

abbrev pub invariant-loop-premiss : goal.invariant-loop-premiss
invariant-loop-premiss l =
    AddsBoth (ArePremissesJudged (context_of l.scope) (take l.premiss-index l.premisses)) [] (map premise_of l.all.items) l.fn.refusals.items l.refusals.items
