use Rattle.rule_gates.proofs.Acting.{actions_are_at_gates_of_the_heading}
use Rattle.rule_gates.proofs.laws.actions_are_at_gates_of_the_heading.Goals as goal

pub returns : goal.returns
returns c = actions_are_at_gates_of_the_heading
