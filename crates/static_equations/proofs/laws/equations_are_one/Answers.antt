use Rattle.static_equations.proofs.Uniqueness.{equation-one}
use Rattle.static_equations.proofs.laws.equations_are_one.Goals as goal

pub returns : goal.returns
returns c = equation-one
