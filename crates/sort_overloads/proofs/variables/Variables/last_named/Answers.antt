use Rattle.std.proofs.Common.{◌∙◌, ◌-◌, ap, map, length}
use Rattle.std.specs.Char.{to_ascii_lowercase}
use Rattle.std.specs.List.{slice_get}
use Rattle.sort_overloads.specs.Tables.{found_of}
use Rattle.sort_overloads.specs.Variables.{variables_at, variables_named}
use Rattle.sort_overloads.proofs.InScope.{last_is}
use Rattle.sort_overloads.proofs.variables.Variables.last_named.Goals as goal

pub returns : goal.returns
returns c =
    let small = map to_ascii_lowercase c.args.name.now in
    let named = c.self.inside.named in
    last_is c.args.name.now c.args.self.now (found_of c.last.result)
    (c.last.ensures
    ∙ ap (λ name. slice_get (variables_at named name) (length (variables_at named name) - 1)) (c.as_str.ensures.value ∙ c.in_ok-small.ensures)
    ∙ ap (λ all. slice_get all (length all - 1)) (c.self.invariant.1 small)
    ∙ ap (λ vs. slice_get (variables_named small 0 vs) (length (variables_named small 0 vs) - 1)) c.self.view_is)
