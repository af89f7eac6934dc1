use Rattle.candidate_laws.proofs.Decided.{decided_entries_hold}
use Rattle.candidate_laws.proofs.list_laws.decided_entries_hold.Goals as goal

pub returns : goal.returns
returns c = decided_entries_hold
