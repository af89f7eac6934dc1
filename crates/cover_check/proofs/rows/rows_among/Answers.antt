use Rattle.std.proofs.Common.{take, refl, sym, subst}
use Rattle.spec_core.specs.Lists.{IsOneOf}
use Rattle.spec_core.specs.Theories.{theory_of}
use Rattle.spec_core.proofs.Lists.{each-at, map_next}
use Rattle.cover_search.specs.Heads.{equations_at, headed_equation}
use Rattle.cover_search.specs.Search.{rows_of}
use Rattle.cover_check.specs.Cases.{AreRows}
use Rattle.cover_check.proofs.Covering.{rows_more}
use Rattle.cover_check.proofs.rows.rows_among.Goals as goal

pub add_row-requires-clause-listed : goal.add_row-requires-clause-listed
add_row-requires-clause-listed c =
    each-at (λ e. IsOneOf e (theory_of c.args.algebra.now).equations) headed_equation _ _ _ c.one-item.result refl
    c.loop-one-test.true c.one-item.is c.requires.listed

pub loop-one-preserved : goal.loop-one-preserved
loop-one-preserved c =
    let theory = theory_of c.args.algebra.now in
    let items = c.args.headed.now in
    subst (λ es. AreRows theory c.args.op.0 es (rows_of c.add_row.new.rows.items))
    (sym (map_next headed_equation items c.loop-one.one-index c.one-item.result c.loop-one-test.true c.one-item.is))
    (rows_more theory c.args.op.0 (equations_at (take c.loop-one.one-index items)) (headed_equation c.one-item.result)
    (rows_of c.loop-one.rows.items) (rows_of c.add_row.new.rows.items) c.loop-one.invariant c.in_ok-add_row.ensures)
