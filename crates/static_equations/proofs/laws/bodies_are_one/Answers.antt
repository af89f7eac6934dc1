use Rattle.static_equations.proofs.Uniqueness.{body-one}
use Rattle.static_equations.proofs.laws.bodies_are_one.Goals as goal

pub returns : goal.returns
returns c = body-one
