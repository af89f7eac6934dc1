use Rattle.std.proofs.Common.{◌≡◌, ◌∙◌, ◌∷◌, [], ap, if◌then◌else◌}
use Rattle.std.proofs.lemmas.Result.{IfOk-weaker}
use Rattle.candidate_composites.specs.Contexts.{repeated, through, turn_of, turns_of}
use Rattle.candidate_composites.specs.Known.{found_of}
use Rattle.candidate_composites.proofs.Runs.{goes_on, run_first}
use Rattle.candidate_composites.proofs.context.+rises.Goals as goal

pub returns-then-branch : goal.returns-then-branch
returns-then-branch t c =
    let turn = turn_of c.in-Under.turn in
    let ts = turns_of c.in-Under.above.now in
    let x = found_of c.args.found.now in
    let y = found_of c.put_run.new.found in
    let first : through (repeated turn c.in-Under.more []) x ≡ y ∷ [] =
    c.in_ok-put_run-in-Under.ensures ∙ ap (λ b. if b then y ∷ [] else []) c.if-branch.true in
    IfOk-weaker c.rises-then-branch.result _ _
    (λ b e. ap (λ k. through (turns_of k) x) c.in-Under.is
    ∙ goes_on turn c.in-Under.more ts x y (if b then found_of c.rises-then-branch.new.found ∷ [] else []) first e)
    c.rises-then-branch.ensures

pub returns-else-branch : goal.returns-else-branch
returns-else-branch t c =
    let turn = turn_of c.in-Under.turn in
    let x = found_of c.args.found.now in
    let y = found_of c.put_run.new.found in
    ap (λ k. through (turns_of k) x) c.in-Under.is
    ∙ run_first turn c.in-Under.more (turns_of c.in-Under.above.now) x []
    (c.in_ok-put_run-in-Under.ensures ∙ ap (λ b. if b then y ∷ [] else []) c.if-branch.false)
