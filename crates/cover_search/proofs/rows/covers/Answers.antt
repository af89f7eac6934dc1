use Rattle.std.proofs.Common.{◌↔◌, IsTrue, map, sym, subst}
use Rattle.spec_core.specs.Sorts.{OnSome}
use Rattle.spec_core.specs.Terms.{term_of, terms}
use Rattle.equation_shapes.specs.Shapes.{AreOfShape}
use Rattle.cover_search.proofs.Candidates.{row_is}
use Rattle.cover_search.proofs.rows.covers.Goals as goal

pub returns : goal.returns
returns c =
    let ps = terms (map term_of c.args.pattern.now) in
    subst (λ o. IsTrue c.are_of_shape.result ↔ OnSome o (λ r. AreOfShape r ps)) (sym (row_is c.args.rows.now c.args.number c.index-rows-number.result c.requires))
    (subst (λ xs. IsTrue c.are_of_shape.result ↔ AreOfShape (terms (map term_of xs)) ps) c.deref.ensures.value c.are_of_shape.ensures.decides)
