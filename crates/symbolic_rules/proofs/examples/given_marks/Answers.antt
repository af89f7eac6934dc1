use Rattle.symbolic_rules.proofs.Agreeing.{given_marks}
use Rattle.symbolic_rules.proofs.examples.given_marks.Goals as goal

pub returns : goal.returns
returns c = given_marks
