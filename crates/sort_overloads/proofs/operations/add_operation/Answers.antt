use Rattle.std.proofs.Common.{rules, map, ◌∙◌, ap, [], ◌∷◌}
use Rattle.std.proofs.lemmas.Result.{on_ok_weaker}
use Rattle.spec_core.specs.Theories.{operation_of}
use Rattle.spec_core.specs.Numbers.{sort_number}
use Rattle.sort_overloads.specs.Listed.{two, argument_lists}
use Rattle.sort_overloads.specs.Tables.{table_of, reading_of, list_of}
use Rattle.sort_overloads.proofs.ByOperations.{stands-more}
use Rattle.sort_overloads.proofs.operations.add_operation.Goals as goal

pub returns : goal.returns
returns c =
    let tables = map table_of c.args.arguments.now in
    on_ok_weaker c.add_applications.result
    (λ e before h. stands-more before (map (reading_of tables) c.args.all.now.items) (map (reading_of tables) c.add_applications.new.all.items) c.args.spelled.now tables c.args.op.0 (operation_of c.args.declaration.now) (map (list_of tables) c.in_ok-lists.lists.items)
    (search rules) (c.in_ok-lists.ensures ∙ ap (λ z. two (argument_lists ([] ∷ []) tables (map sort_number z))) c.deref.ensures.value) (e tables) h)
    c.add_applications.ensures
