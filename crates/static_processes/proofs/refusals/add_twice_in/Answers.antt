use Rattle.std.proofs.Common.{◌∙◌, ◌++◌, ap, map}
use Rattle.type_names.specs.DuplicateNames.{names_twice}
use Rattle.static_processes.specs.Views.{entry_of}
use Rattle.static_processes.specs.WhereParts.{names_at}
use Rattle.static_processes.proofs.Standing.{names_standing}
use Rattle.static_processes.proofs.refusals.add_twice_in.Goals as goal

pub returns : goal.returns
returns c =
    let table = map entry_of c.args.table.now in
    c.in_ok-add_names_twice.ensures
    ∙ ap (λ ts. c.args.refusals.now.items ++ names_twice ts)
    (ap (map (λ t. t.now)) c.deref.ensures.value ∙ c.in_ok-names.ensures ∙ ap (names_at table) (c.standing.ensures ∙ c.requires c.args.within) ∙ names_standing c.args.within table)
