use Rattle.std.proofs.Common.{◌+◌, ◌∙◌, sym, ap, refl}
use Rattle.rule_model.specs.Derivations.{derivation_of}
use Rattle.symbolic_plans.specs.Plans.{put_row}
use Rattle.symbolic_plans.proofs.Runs.{one_more}
use Rattle.symbolic_plans.proofs.rules.run_over_part.Goals as goal

pub loop-turn-preserved : goal.loop-turn-preserved
loop-turn-preserved c =
    let put = put_row c.args.row.now in
    let first = derivation_of c.args.part in
    c.in_ok-tree.ensures.tree ∙ ap put c.loop-turn.invariant
    ∙ sym (one_more put c.loop-turn._turn (c.loop-turn._turn + 1) first refl)
