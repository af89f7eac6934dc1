use Rattle.std.proofs.Common.{refl, ◌∙◌}
use Rattle.cover_search.proofs.Heading.{heads_none_by, heads_none_where}
use Rattle.cover_search.proofs.heads.HeadIndex.heads_none.Goals as goal

pub returns-in-None : goal.returns-in-None
returns-in-None c = λ es is. ((λ i. heads_none_by c.args.op.0 es (c.in-None.ensures ∙ is c.args.op.0)), (λ n. refl))

pub returns-in-Some : goal.returns-in-Some
returns-in-Some c = λ es is.
    heads_none_where c.args.op.0 es c.in-Some.headed.now c.is_empty.result c.is_empty.ensures (c.in-Some.ensures ∙ is c.args.op.0)
