use Rattle.std.proofs.Common.{◌≡◌, take}
use Rattle.std.specs.List.{flat_map}
use Rattle.spec_core.specs.Terms.{term_of}
use Rattle.static_equations.specs.Numbered.{occurring, with_variables}
use Rattle.static_equations.proofs.numbering.+add_variables.Given as goal

abbrev pub invariant-loop-argument : goal.invariant-loop-argument
invariant-loop-argument l = l.numbers.items ≡ with_variables l.fn.numbers.items (flat_map (λ t. occurring (term_of t)) (take l.argument-index l.argument-items))
