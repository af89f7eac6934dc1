use Rattle.std.proofs.Common.{◌++◌, map, ap, ◌∙◌}
use Rattle.spec_core.specs.Terms.{term_of, terms}
use Rattle.cover_search.specs.Search.{operation_there_in}
use Rattle.cover_search.specs.Splits.{number_if, numbers_at}
use Rattle.cover_search.proofs.Candidates.{operation_in}
use Rattle.cover_search.proofs.split.Split.add_row.Goals as goal

pub returns : goal.returns
returns c = λ o.
    let row = terms (map term_of c.args.row.now) in
    let ps = terms (map term_of c.args.pattern.now) in
    c.in_ok-add.ensures o
    ∙ ap (λ a. numbers_at c.args.self.now o ++ number_if o a c.args.number)
    (c.operation_there_in-operation.ensures ∙ ap (λ xs. operation_there_in row ps (terms (map term_of xs))) c.deref.ensures.value
    ∙ operation_in c.args.rows.now row ps c.args.number c.index-rows-number.result c.requires)
