-- A table is its readings over the tables of the arguments.
use Rattle.std.proofs.Common.{rules, map, ◌≡◌, ◌∙◌, ap}
use Rattle.sort_overloads.specs.declared.table.Table.{Table}
use Rattle.sort_overloads.specs.declared.table.Table.TheFolds.{the_lemmas}
use Rattle.sort_overloads.specs.declared.table.Table.TheViews.{out-Table}
use Rattle.sort_overloads.specs.Tables.{table_of, reading_of, kept_of, kept_over}
use Rattle.sort_overloads.proofs.Loops.{map-through}

pub whole : (t : Table) → table_of t ≡ map (reading_of (map table_of (out-Table t).parts.items)) (out-Table t).readings.items
whole t =
    let table = out-Table t in
    let e : kept_of t ≡ kept_over (map (λ k. k.readings) (map kept_of table.parts.items)) table.readings.items = search (rules, the_lemmas) in
    ap (λ k. k.readings) e ∙ ap (λ z. map (reading_of z) table.readings.items) (map-through (λ k. k.readings) kept_of table.parts.items)
