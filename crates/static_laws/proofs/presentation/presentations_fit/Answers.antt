use Rattle.static_laws.proofs.Presented.{presentations_fit}
use Rattle.static_laws.proofs.presentation.presentations_fit.Goals as goal

pub returns : goal.returns
returns c = presentations_fit c.types_without_a_cycle_are_made_from_each_other.ensures.refused c.types_without_a_cycle_are_made_from_each_other.ensures.made
