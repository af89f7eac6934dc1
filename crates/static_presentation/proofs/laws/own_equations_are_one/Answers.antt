use Rattle.static_presentation.proofs.Uniqueness.{own-one}
use Rattle.static_presentation.proofs.laws.own_equations_are_one.Goals as goal

pub returns : goal.returns
returns c = own-one
