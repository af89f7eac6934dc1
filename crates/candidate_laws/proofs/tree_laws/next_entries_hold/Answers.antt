use Rattle.candidate_laws.proofs.TreeEntries.{next_entries_hold}
use Rattle.candidate_laws.proofs.tree_laws.next_entries_hold.Goals as goal

pub returns : goal.returns
returns c = next_entries_hold
