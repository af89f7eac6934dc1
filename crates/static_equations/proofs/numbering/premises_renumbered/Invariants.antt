use Rattle.std.proofs.Common.{◌≡◌, map, take}
use Rattle.spec_core.specs.Theories.{premise_of}
use Rattle.static_equations.specs.Numbered.{premise_renumbered}
use Rattle.static_equations.proofs.numbering.premises_renumbered.Given as goal

abbrev pub invariant-loop-premise : goal.invariant-loop-premise
invariant-loop-premise l = map premise_of l.all.items ≡ map (premise_renumbered l.numbers) (map premise_of (take l.premise-index l.premises))
