use Rattle.board_laws.proofs.Living.{needed_jobs_live}
use Rattle.board_laws.proofs.needed.needed_jobs_live.Goals as goal

pub returns : goal.returns
returns c = needed_jobs_live
