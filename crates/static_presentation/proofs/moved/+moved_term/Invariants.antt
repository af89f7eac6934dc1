use Rattle.std.proofs.Common.{◌≡◌, map, take}
use Rattle.spec_core.specs.Terms.{term_of}
use Rattle.static_presentation.specs.Moved as moved
use Rattle.static_presentation.proofs.moved.+moved_term.Given as goal

abbrev pub invariant-loop-argument : goal.invariant-loop-argument
invariant-loop-argument l = map term_of l.all.items ≡ map (λ t. moved.moved_term l.operations (term_of t)) (take l.argument-index l.argument-items)
