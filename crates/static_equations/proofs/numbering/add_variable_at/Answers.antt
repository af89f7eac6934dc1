use Rattle.std.proofs.Common.{◌++◌, ◌∙◌, sym, ap, map}
use Rattle.std.specs.Prelude.{option_to_list}
use Rattle.std.proofs.lemmas.List.{append-nil, map-append}
use Rattle.sort_overloads.specs.Views.{declared_of}
use Rattle.static_equations.specs.Views.{declared_at}
use Rattle.static_equations.proofs.Occurrences.{mapped-got, mapped-none}
use Rattle.static_equations.proofs.numbering.add_variable_at.Goals as goal

pub returns-then-place-variables : goal.returns-then-place-variables
returns-then-place-variables c =
    let all = map declared_at c.args.all.now.items in
    sym (append-nil all) ∙ ap (λ z. all ++ option_to_list z) (sym (mapped-none declared_of c.args.variables.now c.args.number c.if-place-variables.true))

pub returns : goal.returns
returns c =
    let all = map declared_at c.args.all.now.items in
    ap (map declared_at) c.in_ok-push.ensures.items ∙ map-append declared_at c.args.all.now.items _
    ∙ ap (λ z. all ++ option_to_list z) (sym (mapped-got declared_of c.args.variables.now c.args.number c.index-variables-place.result c.if-place-variables.false c.index-variables-place.is))
