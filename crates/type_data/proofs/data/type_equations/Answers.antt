use Rattle.std.proofs.Common.{◌≡◌, IfOk, map, subst}
use Rattle.type_equation_copies.specs.Contents.{equations}
use Rattle.type_equation_copies.specs.Views.{made_at, stated_by}
use Rattle.type_data.proofs.data.type_equations.Goals as goal

pub returns : goal.returns
returns c = subst (λ types. IfOk c.equations_of.result (λ found. map made_at found.items ≡ equations types (stated_by c.args.own.now))) c.in_ok-prepared.ensures.types c.equations_of.ensures
