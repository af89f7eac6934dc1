use Rattle.std.proofs.Common.{◌∙◌, ◌++◌, ap, sym, map, Bor}
use Rattle.std.specs.Prelude.{option_map}
use Rattle.std.proofs.lemmas.List.{append-nil}
use Rattle.std.proofs.lemmas.Option.{slice_get-map, slice_get_past}
use Rattle.spec_core.proofs.Lists.{slice_get_next}
use Rattle.lotos_ast.specs.declared.token.Token.{Token}
use Rattle.static_processes.specs.Views.{entry_of}
use Rattle.static_processes.specs.WhereParts.{name_of}
use Rattle.static_processes.proofs.refusals.add_name_at.Goals as goal

pub returns-in_ok-add_name : goal.returns-in_ok-add_name
returns-in_ok-add_name c =
    let names = map (λ (t : Bor Token). t.now) c.args.names.now.items in
    let table = c.args.table.now in
    c.in_ok-add_name.ensures
    ∙ ap (λ o. names ++ name_of o)
    (sym (slice_get-map entry_of table c.args.number ∙ ap (option_map entry_of) (slice_get_next table c.args.number c.index-table-number.result c.if-number-table.true c.index-table-number.is)))

pub returns-else-number-table : goal.returns-else-number-table
returns-else-number-table c =
    let names = map (λ (t : Bor Token). t.now) c.args.names.now.items in
    let table = c.args.table.now in
    sym (append-nil names)
    ∙ ap (λ o. names ++ name_of o) (sym (slice_get-map entry_of table c.args.number ∙ ap (option_map entry_of) (slice_get_past table c.args.number c.if-number-table.false)))
