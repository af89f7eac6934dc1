use Rattle.candidate_laws.proofs.Decided.{lists_are_those}
use Rattle.candidate_laws.proofs.list_laws.lists_are_those.Goals as goal

pub returns : goal.returns
returns c = lists_are_those
