use Rattle.session_laws.proofs.Completing.{whole_sessions_are_complete}
use Rattle.session_laws.proofs.complete.whole_sessions_are_complete.Goals as goal

pub returns : goal.returns
returns c = whole_sessions_are_complete
