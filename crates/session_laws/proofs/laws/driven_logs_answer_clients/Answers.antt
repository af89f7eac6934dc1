use Rattle.session_laws.proofs.Answered.{driven_logs_answer_clients}
use Rattle.session_laws.proofs.laws.driven_logs_answer_clients.Goals as goal

pub returns : goal.returns
returns c = driven_logs_answer_clients
