use Rattle.candidate_laws.proofs.Sought.{sought_is_what_comes_up}
use Rattle.candidate_laws.proofs.list_laws.sought_is_what_comes_up.Goals as goal

pub returns : goal.returns
returns c = sought_is_what_comes_up
