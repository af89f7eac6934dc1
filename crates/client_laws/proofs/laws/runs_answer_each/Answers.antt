use Rattle.client_laws.proofs.Answered.{runs_answer_each}
use Rattle.client_laws.proofs.laws.runs_answer_each.Goals as goal

pub returns : goal.returns
returns c = runs_answer_each
