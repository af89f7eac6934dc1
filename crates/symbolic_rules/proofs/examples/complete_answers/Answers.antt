use Rattle.symbolic_rules.proofs.Agreeing.{complete_answers}
use Rattle.symbolic_rules.proofs.examples.complete_answers.Goals as goal

pub returns : goal.returns
returns c = complete_answers
