use Rattle.std.proofs.Common.{◌∙◌, ◌∷◌, [], map, sym, ap}
use Rattle.std.proofs.lemmas.Result.{IfOk-weaker}
use Rattle.spec_core.specs.Code.{synchronised_of}
use Rattle.candidate_composites.specs.Contexts.{alone_by, repeated, through}
use Rattle.candidate_composites.specs.Known.{awaited, found_of, own_or_made, step_of}
use Rattle.candidate_composites.proofs.Runs.{run_at_gap, run_at_plan}
use Rattle.candidate_composites.proofs.context.put_alone.Goals as goal

pub returns-in_ok-put_steps-in-Gap : goal.returns-in_ok-put_steps-in-Gap
returns-in_ok-put_steps-in-Gap c =
    let gates = synchronised_of c.args.gates.now in
    let row = c.args.row.now in
    let g = c.in-Gap.field-0.0 in
    ap (λ x. through (repeated (alone_by gates row) c.args.more []) (found_of x)) c.in-Gap.is
    ∙ run_at_gap gates row c.args.more g (map step_of c.in-Gap.steps.items)
    ∙ ap (λ l. awaited g l ∷ []) (sym c.in_ok-put_steps-in-Gap.ensures)

pub returns-in-Composite : goal.returns-in-Composite
returns-in-Composite c =
    let gates = synchronised_of c.args.gates.now in
    let row = c.args.row.now in
    IfOk-weaker c.rises_alone.result _ _
    (λ b e. ap (λ x. through (repeated (alone_by gates row) c.args.more []) (found_of x)) c.in-Composite.is
    ∙ run_at_plan gates row c.args.more (own_or_made c.in-Composite.composite) b (own_or_made c.rises_alone.new.composite) e)
    c.rises_alone.ensures
