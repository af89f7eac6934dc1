use Rattle.std.proofs.Common.{rules, map, ◌≡◌, ◌∙◌, ap}
use Rattle.sort_overloads.specs.declared.table.Table.TheFolds.{the_lemmas}
use Rattle.sort_overloads.specs.declared.table.Table.TheViews.{roll-Table}
use Rattle.sort_overloads.specs.Tables.{reading_of, kept_of, kept_over}
use Rattle.sort_overloads.proofs.Loops.{map-through}
use Rattle.sort_overloads.proofs.table.Table.new.Goals as goal

pub returns : goal.returns
returns c =
    let e : kept_of (roll-Table record { readings = c.args.readings; parts = c.args.parts }) ≡ kept_over (map (λ k. k.readings) (map kept_of c.args.parts.items)) c.args.readings.items = search (rules, the_lemmas) in
    ap (λ k. k.readings) e ∙ ap (λ z. map (reading_of z) c.args.readings.items) (map-through (λ k. k.readings) kept_of c.args.parts.items)
