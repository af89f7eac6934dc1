use Rattle.equation_overlaps.proofs.Giving.{gives_to_candidates}
use Rattle.equation_overlaps.proofs.given.gives_to_candidates.Goals as goal

pub returns : goal.returns
returns c = record { law = gives_to_candidates }
