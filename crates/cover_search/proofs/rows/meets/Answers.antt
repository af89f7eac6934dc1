use Rattle.std.proofs.Common.{◌↔◌, IsTrue, map, sym, subst}
use Rattle.spec_core.specs.Sorts.{OnSome}
use Rattle.spec_core.specs.Terms.{term_of, terms}
use Rattle.equation_shapes.specs.Shapes.{MeetAll}
use Rattle.cover_search.proofs.Candidates.{row_is}
use Rattle.cover_search.proofs.rows.meets.Goals as goal

pub returns : goal.returns
returns c =
    let ps = terms (map term_of c.args.pattern.now) in
    subst (λ o. IsTrue c.meet_all.result ↔ OnSome o (λ r. MeetAll r ps)) (sym (row_is c.args.rows.now c.args.number c.index-rows-number.result c.requires))
    (subst (λ xs. IsTrue c.meet_all.result ↔ MeetAll (terms (map term_of xs)) ps) c.deref.ensures.value c.meet_all.ensures.decides)
