use Rattle.candidates.proofs.Needing.{jobs_are_needed}
use Rattle.candidates.proofs.laws.jobs_are_needed.Goals as goal

pub returns : goal.returns
returns c = jobs_are_needed
