use Rattle.candidates.proofs.Listing.{known_candidates_are_those}
use Rattle.candidates.proofs.laws.known_candidates_are_those.Goals as goal

pub returns : goal.returns
returns c = known_candidates_are_those
