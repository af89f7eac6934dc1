use Rattle.candidates.proofs.Deciding.{decided_entries_are_next}
use Rattle.candidates.proofs.laws.decided_entries_are_next.Goals as goal

pub returns : goal.returns
returns c = decided_entries_are_next
