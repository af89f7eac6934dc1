use Rattle.session_laws.proofs.Legal.{driven_logs_are_legal}
use Rattle.session_laws.proofs.laws.driven_logs_are_legal.Goals as goal

pub returns : goal.returns
returns c = driven_logs_are_legal
