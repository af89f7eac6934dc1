use Rattle.session_laws.proofs.Numbers.{whole_sessions_answer_clients}
use Rattle.session_laws.proofs.answers.whole_sessions_answer_clients.Goals as goal

pub returns : goal.returns
returns c = whole_sessions_answer_clients
