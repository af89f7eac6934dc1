use Rattle.std.proofs.Common.{◌≡◌, [], map, take}
use Rattle.spec_core.specs.Theories.{equation_of}
use Rattle.sort_overloads.specs.Views.{context_of}
use Rattle.static_equations.specs.Bodies.{IsBodyJudged}
use Rattle.static_equations.specs.Gathered.{AddsBoth, Gathers}
use Rattle.static_presentation.proofs.own.read_bodies.Given as goal

abbrev pub invariant-loop-body : goal.invariant-loop-body
invariant-loop-body l = (l.scope.signature ≡ l.fn.scope.signature) × (context_of l.scope ≡ context_of l.fn.scope)
    × AddsBoth (Gathers (IsBodyJudged (context_of l.fn.scope)) (map (λ b. b.now) (take l.body-index l.written))) [] (map equation_of l.all.items) l.fn.refusals.items l.refusals.items
