use Rattle.std.proofs.Common.{◌≡◌, map, take}
use Rattle.spec_core.specs.Terms.{term_of}
use Rattle.static_equations.specs.Numbered.{renumbered}
use Rattle.static_equations.proofs.numbering.+renumbered.Given as goal

abbrev pub invariant-loop-argument : goal.invariant-loop-argument
invariant-loop-argument l = map term_of l.all.items ≡ map (λ t. renumbered l.numbers (term_of t)) (take l.argument-index l.argument-items)
