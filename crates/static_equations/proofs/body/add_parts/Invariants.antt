use Rattle.std.proofs.Common.{◌≡◌, map, take}
use Rattle.spec_core.specs.Theories.{equation_of}
use Rattle.sort_overloads.specs.Views.{context_of}
use Rattle.static_equations.specs.Bodies.{IsPartJudged}
use Rattle.static_equations.specs.Gathered.{AddsBoth, Gathers}
use Rattle.static_equations.proofs.body.add_parts.Given as goal

abbrev pub invariant-loop-part : goal.invariant-loop-part
invariant-loop-part l = (l.scope.signature ≡ l.fn.scope.signature) × (context_of l.scope ≡ context_of l.fn.scope)
    × AddsBoth (Gathers (IsPartJudged (context_of l.fn.scope)) (take l.part-index l.parts)) (map equation_of l.fn.all.items) (map equation_of l.all.items) l.fn.refusals.items l.refusals.items
