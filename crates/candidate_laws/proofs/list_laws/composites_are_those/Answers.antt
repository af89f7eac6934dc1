use Rattle.candidate_laws.proofs.Composites.{composites_are_those}
use Rattle.candidate_laws.proofs.list_laws.composites_are_those.Goals as goal

pub returns : goal.returns
returns c = composites_are_those
