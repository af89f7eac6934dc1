use Rattle.symbolic_composites.proofs.Answers.{exact_answers_exist}
use Rattle.symbolic_composites.proofs.ready.exact_answers_exist.Goals as goal

pub returns : goal.returns
returns c = exact_answers_exist
