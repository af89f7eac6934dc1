use Rattle.board_laws.proofs.Living.{needed_jobs_are_undone}
use Rattle.board_laws.proofs.needed.needed_jobs_are_undone.Goals as goal

pub returns : goal.returns
returns c = needed_jobs_are_undone
