use Rattle.std.proofs.Common.{◌∙◌, sym, ap}
use Rattle.std.specs.List.{flat_map}
use Rattle.std.proofs.lemmas.List.Folds.{flat_map-map}
use Rattle.std.proofs.lemmas.List.{take_all}
use Rattle.spec_core.specs.Theories.{premise_of}
use Rattle.static_equations.specs.Numbered.{premise_occurring, with_variables}
use Rattle.static_equations.proofs.numbering.add_premise_variables.Goals as goal

pub returns : goal.returns
returns c =
    c.loop-premise.invariant
    ∙ ap (with_variables c.args.numbers.now.items)
    (ap (flat_map (λ p. premise_occurring (premise_of p))) (take_all c.loop-premise.premise-index c.args.premises.now c.loop-premise-test.false)
    ∙ sym (flat_map-map premise_occurring premise_of c.args.premises.now))
