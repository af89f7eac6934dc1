use Rattle.std.proofs.Common.{get_or, map}
use Rattle.spec_core.specs.Terms.{term_of, terms}
use Rattle.spec_core.proofs.Lists.{flat_map_next, own_default}
use Rattle.cover_search.specs.Search.{rows_of}
use Rattle.cover_search.specs.Splits.{number_if, numbers_at, operation_at}
use Rattle.cover_search.proofs.Candidates.{none_parted}
use Rattle.cover_search.proofs.split.Split.of.Goals as goal

pub loop-number-init : goal.loop-number-init
loop-number-init c = λ o. none_parted c.no_rows-split.result c.no_rows-split.ensures.places c.no_rows-split.ensures.others o

pub loop-number-preserved : goal.loop-number-preserved
loop-number-preserved c = λ o.
    let numbers = c.args.numbers.now in
    let i = c.loop-number.number-index in
    flat_map_next (λ n. number_if o (operation_at (rows_of c.args.rows.now) (terms (map term_of c.args.row.now)) (terms (map term_of c.args.pattern.now)) n) n)
    (numbers_at c.loop-number.split o) (numbers_at c.add_row.new.self o) numbers i (get_or numbers i 0)
    c.loop-number-test.true (own_default numbers i 0 c.loop-number-test.true) (c.loop-number.invariant o) (c.in_ok-add_row.ensures o)
