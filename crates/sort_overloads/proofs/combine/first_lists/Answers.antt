use Rattle.std.proofs.Common.{arith, ◌≡◌, ◌<◌, ◌∷◌, [], map, ap, ◌∙◌, sym, length}
use Rattle.spec_core.specs.Numbers.{sort_number}
use Rattle.sort_overloads.specs.Listed.{two, argument_lists, extended}
use Rattle.sort_overloads.specs.Tables.{table_of, arguments_of, reading_of, list_of, picked}
use Rattle.sort_overloads.proofs.Loops.{argument_lists-unlike, lists-continued, mapped-at}
use Rattle.sort_overloads.proofs.combine.first_lists.Goals as goal

pub returns-then-sorts-arguments : goal.returns-then-sorts-arguments
returns-then-sorts-arguments c =
    ap (λ x. two (map (list_of (map table_of c.args.arguments.now)) x)) c.new-lists.ensures.items
    ∙ sym (ap two (argument_lists-unlike table_of sort_number ([] ∷ []) c.args.arguments.now c.args.sorts.now c.if-sorts-arguments.true))

pub loop-i-preserved : goal.loop-i-preserved
loop-i-preserved c =
    let tables = map table_of c.args.arguments.now in
    let argument = c.index-arguments-i.result in
    let same : length c.args.sorts.now ≡ length c.args.arguments.now = c.if-sorts-arguments.false in
    let within : c.loop-i.i < length c.args.arguments.now = (let t = c.loop-i-test.true in omega (arith, t, same)) in
    let at = mapped-at table_of c.args.arguments.now c.loop-i.i argument [] within c.index-arguments-i.is in
    let chosen = c.in_ok-picks.ensures tables (arguments_of argument) (at ∙ c.readings.ensures) in
    lists-continued table_of sort_number (map (list_of tables) c.loop-i.lists.items) (map (list_of tables) c.in_ok-lists.lists.items) (argument_lists ([] ∷ []) tables (map sort_number c.args.sorts.now))
    c.args.arguments.now c.args.sorts.now c.loop-i.i argument _ within c.loop-i-test.true c.index-arguments-i.is
    (map (list_of tables) c.deref.result.now) (ap (map (list_of tables)) c.deref.ensures.value)
    (map (reading_of (arguments_of argument)) c.readings.result.now) (sym c.readings.ensures)
    (c.in_ok-lists.ensures tables
    ∙ ap (λ z. two (extended (map (list_of tables) c.deref.result.now) (map (picked tables) z))) c.deref-in-loop-i.ensures.value
    ∙ ap (λ z. two (extended (map (list_of tables) c.deref.result.now) z)) chosen)
    c.loop-i.invariant
