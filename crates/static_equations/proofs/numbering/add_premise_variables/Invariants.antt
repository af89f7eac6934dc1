use Rattle.std.proofs.Common.{◌≡◌, take}
use Rattle.std.specs.List.{flat_map}
use Rattle.spec_core.specs.Theories.{premise_of}
use Rattle.static_equations.specs.Numbered.{premise_occurring, with_variables}
use Rattle.static_equations.proofs.numbering.add_premise_variables.Given as goal

abbrev pub invariant-loop-premise : goal.invariant-loop-premise
invariant-loop-premise l = l.numbers.items ≡ with_variables l.fn.numbers.items (flat_map (λ p. premise_occurring (premise_of p)) (take l.premise-index l.premises))
