use Rattle.std.proofs.Common.{◌+◌, ◌∙◌, sym, arith}
use Rattle.spec_core.proofs.Options.{not_some}
use Rattle.cover_search.proofs.Facing.{faced_skip, faced_short}
use Rattle.cover_search.proofs.opening.+faced.Goals as goal
use Rattle.cover_search.proofs.opening.+faced.Goals.{faced_any-then-i-patterns+else-is_some, faced_any-else-i-patterns}

pub faced_any-loop-i-preserved : goal.faced_any-loop-i-preserved
faced_any-loop-i-preserved t c =
    let rows = c.args.rows.now in
    let patterns = c.args.patterns.now in
    elim c.if-i-patterns.branch [
      | faced_any-then-i-patterns+else-is_some w ↦
          faced_skip _ rows patterns c.loop-i.i c.index-rows-i.result w.index-patterns-i.result c.loop-i-test.true w.if-i-patterns.true c.index-rows-i.is w.index-patterns-i.is (sym w.faced-found.ensures ∙ not_some w.faced-found.result (sym w.is_some.ensures ∙ w.if-is_some.false)) c.loop-i.invariant
      | faced_any-else-i-patterns w ↦ c.loop-i.invariant ∙ faced_short rows patterns c.loop-i.i w.if-i-patterns.false ∙ sym (faced_short rows patterns (c.loop-i.i + 1) (omega (arith, w.if-i-patterns.false)))
    ]
