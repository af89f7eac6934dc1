use Rattle.tree_laws.proofs.Listing.{sized_windows_differ}
use Rattle.tree_laws.proofs.laws.sized_windows_differ.Goals as goal

pub returns : goal.returns
returns c = sized_windows_differ
