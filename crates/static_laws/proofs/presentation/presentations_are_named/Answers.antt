use Rattle.static_laws.proofs.PresentationNamed.{presentations_are_named}
use Rattle.static_laws.proofs.presentation.presentations_are_named.Goals as goal

pub returns : goal.returns
returns c = presentations_are_named c.types_without_a_cycle_are_made_from_each_other.ensures.refused c.types_without_a_cycle_are_made_from_each_other.ensures.made
