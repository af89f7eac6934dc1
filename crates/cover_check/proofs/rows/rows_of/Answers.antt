use Rattle.std.proofs.Common.{[], ◌∙◌, refl, sym, subst}
use Rattle.std.proofs.lemmas.Result.{IfOk-weaker}
use Rattle.spec_core.specs.Lists.{Each, IsOneOf}
use Rattle.spec_core.specs.Theories.{theory_of}
use Rattle.spec_core.proofs.Lists.{each_filter}
use Rattle.spec_core.proofs.Members.{each_from}
use Rattle.cover_search.specs.Heads.{is_headed}
use Rattle.cover_search.specs.Search.{rows_of}
use Rattle.cover_check.specs.Cases.{AreRows}
use Rattle.cover_check.proofs.Covering.{rows_all}
use Rattle.cover_check.proofs.rows.rows_of.Goals as goal

pub rows_among-requires-clause-listed : goal.rows_among-requires-clause-listed
rows_among-requires-clause-listed c =
    let es = (theory_of c.args.algebra.now).equations in
    let f = c.args.op.0 in
    subst (Each (λ e. IsOneOf e es)) (sym (c.in-Some.ensures ∙ c.requires.index.heads f))
    (each_filter (λ e. IsOneOf e es) (is_headed f) es (each_from (λ e. IsOneOf e es) es (λ e o. o)))

pub returns-in-None : goal.returns-in-None
returns-in-None c =
    let theory = theory_of c.args.algebra.now in
    let f = c.args.op.0 in
    subst (λ rows. AreRows theory f theory.equations (rows_of rows)) (sym c.new.ensures.items)
    (rows_all theory f theory.equations [] (subst (λ es. AreRows theory f es []) (c.in-None.ensures ∙ c.requires.index.heads f) refl))

pub returns-in-Some : goal.returns-in-Some
returns-in-Some c =
    let theory = theory_of c.args.algebra.now in
    let f = c.args.op.0 in
    IfOk-weaker c.rows_among.result _ _
    (λ rows h. rows_all theory f theory.equations (rows_of rows.items)
    (subst (λ es. AreRows theory f es (rows_of rows.items)) (c.in-Some.ensures ∙ c.requires.index.heads f) h))
    c.rows_among.ensures
