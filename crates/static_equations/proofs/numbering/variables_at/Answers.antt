use Rattle.std.proofs.Common.{◌++◌, ◌∙◌, sym, ap, map, get_or}
use Rattle.std.specs.List.{slice_get}
use Rattle.std.specs.Prelude.{option_to_list}
use Rattle.sort_overloads.specs.Views.{declared_of}
use Rattle.static_equations.proofs.Occurrences.{variables-more}
use Rattle.static_equations.proofs.numbering.variables_at.Goals as goal

pub loop-number-preserved : goal.loop-number-preserved
loop-number-preserved c =
    let declared = map declared_of c.args.variables.now in
    let i = c.loop-number.number-index in
    c.in_ok-add_variable_at.ensures ∙ ap (λ z. z ++ option_to_list (slice_get declared (get_or c.args.numbers.now i 0))) c.loop-number.invariant
    ∙ sym (variables-more declared c.args.numbers.now i c.loop-number-test.true)
