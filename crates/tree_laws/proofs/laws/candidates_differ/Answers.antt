use Rattle.tree_laws.proofs.Listing.{candidates_differ}
use Rattle.tree_laws.proofs.laws.candidates_differ.Goals as goal

pub returns : goal.returns
returns c = candidates_differ
