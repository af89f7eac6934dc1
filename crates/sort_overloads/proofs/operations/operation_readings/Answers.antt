use Rattle.std.proofs.Common.{arith, map, ◌∙◌, ap, sym, subst}
use Rattle.std.specs.List.{flat_map}
use Rattle.std.proofs.lemmas.List.{take_all}
use Rattle.spec_core.specs.Theories.{operation_of, operations_of}
use Rattle.sort_overloads.specs.Listed.{StandsFor}
use Rattle.sort_overloads.specs.Tables.{table_of, reading_of}
use Rattle.sort_overloads.proofs.Numbered.{of_number, number-within, by-numbers-next, all-by-numbers}
use Rattle.sort_overloads.proofs.operations.operation_readings.Goals as goal

pub index-declaration-requires : goal.index-declaration-requires
index-declaration-requires c =
    let r = number-within operation_of c.args.spelled.now c.args.signature.now.ops.items c.in_ok-number-items.number-items.now c.loop-number.number-index
    (c.in_ok-number-items.ensures.numbers ∙ c.requires.index c.args.spelled.now) c.loop-number-test.true in
    grind (arith, r)

pub loop-number-preserved : goal.loop-number-preserved
loop-number-preserved c =
    let tables = map table_of c.args.arguments.now in
    let name = c.args.spelled.now in
    let operations = c.args.signature.now.ops.items in
    let numbers = c.in_ok-number-items.number-items.now in
    let within = number-within operation_of name operations numbers c.loop-number.number-index (c.in_ok-number-items.ensures.numbers ∙ c.requires.index name) c.loop-number-test.true in
    let e = by-numbers-next operation_of name tables operations numbers c.loop-number.number-index c.index-declaration.result.now c.loop-number-test.true within c.index-declaration.ensures in
    subst (λ z. StandsFor z (map (reading_of tables) c.add_operation.new.all.items)) (sym e) (c.in_ok-add_operation.ensures _ c.loop-number.invariant)

pub returns : goal.returns
returns c =
    let tables = map table_of c.args.arguments.now in
    let operations = operations_of c.args.signature.now in
    let name = c.args.spelled.now in
    record {
      stands = subst (λ z. StandsFor z (map (reading_of tables) c.loop-number.all.items))
          (ap (flat_map (of_number name tables operations)) (take_all c.loop-number.number-index c.in_ok-number-items.number-items.now c.loop-number-test.false ∙ c.in_ok-number-items.ensures.numbers ∙ c.requires.index name)
          ∙ all-by-numbers name tables operations)
          c.loop-number.invariant;
    }
