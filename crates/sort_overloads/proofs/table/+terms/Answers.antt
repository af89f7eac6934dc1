use Rattle.std.proofs.Common.{arith, map, ◌≡◌, ◌<◌, ◌∙◌, ap, sym, length, get_or}
use Rattle.std.specs.List.{slice_index_or}
use Rattle.std.proofs.lemmas.Result.{IfOk-weaker}
use Rattle.sort_overloads.specs.declared.table.Table.TheViews.{out-Table}
use Rattle.sort_overloads.specs.Tables.{table_of, reading_of, root_term, no_reading_there}
use Rattle.sort_overloads.proofs.Loops.{mapped-at}
use Rattle.sort_overloads.proofs.Whole.{whole}
use Rattle.sort_overloads.proofs.table.+terms.Goals as goal

pub Table::term-returns : goal.Table::term-returns
Table::term-returns t c =
    let table = out-Table c.args.self.now in
    let tables = map table_of table.parts.items in
    let reading = c.index.result.now in
    let within : c.args.number < length table.readings.items = (let f = c.if-number-len.false in let e = c.len.ensures in omega (arith, f, e)) in
    let at : reading ≡ get_or table.readings.items c.args.number reading = c.index.ensures in
    IfOk-weaker c.reading_term.result _ _
    (λ u h. h ∙ ap (λ z. root_term (map table_of z) reading.root) c.deref.ensures.value
    ∙ sym (ap (λ z. (slice_index_or z c.args.number no_reading_there).term) (whole c.args.self.now) ∙ ap (λ z. z.term) (mapped-at (reading_of tables) table.readings.items c.args.number reading no_reading_there within at)))
    c.reading_term.ensures
