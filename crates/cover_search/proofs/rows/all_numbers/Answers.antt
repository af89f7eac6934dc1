use Rattle.std.proofs.Common.{◌≡◌, ◌∷◌, ◌++◌, [], length, ap, ◌∙◌, arith}
use Rattle.cover_search.proofs.Candidates.{all_candidates, range_next}
use Rattle.cover_search.proofs.rows.all_numbers.Goals as goal

pub loop-number-preserved : goal.loop-number-preserved
loop-number-preserved c = c.in_ok-push.ensures.items ∙ ap (λ z. z ++ c.loop-number.number ∷ []) c.loop-number.invariant ∙ range_next c.loop-number.number

pub returns : goal.returns
returns c = λ ps.
    let all : c.loop-number.number ≡ length c.args.rows.now = omega (arith, c.loop-number-test.false, c.loop-number.auto.number-end) in
    all_candidates c.args.rows.now ps c.loop-number.all.items c.loop-number.number c.loop-number.invariant all
