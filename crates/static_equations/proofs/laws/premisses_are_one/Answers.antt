use Rattle.static_equations.proofs.Uniqueness.{condition-one}
use Rattle.static_equations.proofs.laws.premisses_are_one.Goals as goal

pub returns : goal.returns
returns c = λ context p. condition-one context p.left p.right
