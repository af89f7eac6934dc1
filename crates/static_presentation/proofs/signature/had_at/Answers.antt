use Rattle.std.proofs.Common.{◌∙◌, ◌++◌, ◌∷◌, [], ap, map, get_or}
use Rattle.type_contents.specs.Views.{described_of}
use Rattle.static_presentation.specs.Signatures.{stands_at}
use Rattle.static_presentation.proofs.Had.{stands_next}
use Rattle.static_presentation.proofs.signature.had_at.Goals as goal

pub loop-number-preserved : goal.loop-number-preserved
loop-number-preserved c =
    let all = map described_of c.args.all.now in
    let number = get_or c.args.numbers.now c.loop-number.number-index 0 in
    c.in_ok-add_at.ensures ∙ ap (λ ds. ds ++ stands_at all (number ∷ [])) c.loop-number.invariant
    ∙ stands_next all c.args.numbers.now c.loop-number.number-index c.loop-number-test.true
