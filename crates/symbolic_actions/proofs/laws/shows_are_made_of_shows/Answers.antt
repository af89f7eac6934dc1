use Rattle.symbolic_actions.proofs.Folding.{shows_are_made_of_shows}
use Rattle.symbolic_actions.proofs.laws.shows_are_made_of_shows.Goals as goal

pub returns : goal.returns
returns c = shows_are_made_of_shows
