use Rattle.symbolic_actions.proofs.Deciding.{fields_are_decided}
use Rattle.symbolic_actions.proofs.laws.fields_are_decided.Goals as goal

pub returns : goal.returns
returns c = fields_are_decided
