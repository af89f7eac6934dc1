use Rattle.std.proofs.Common.{◌∙◌}
use Rattle.sort_overloads.specs.Tables.{found_of}
use Rattle.sort_overloads.proofs.InScope.{found_there, any_is}
use Rattle.sort_overloads.proofs.variables.Variables.has.Goals as goal

pub returns : goal.returns
returns c =
    c.is_some.ensures ∙ found_there c.in_ok-found.found
    ∙ any_is c.args.name.now c.args.self.now (found_of c.in_ok-found.found) c.in_ok-found.ensures
