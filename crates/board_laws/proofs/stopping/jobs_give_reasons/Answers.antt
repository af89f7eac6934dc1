use Rattle.board_laws.proofs.StoppingGiven.{jobs_give_reasons}
use Rattle.board_laws.proofs.stopping.jobs_give_reasons.Goals as goal

pub returns : goal.returns
returns c = jobs_give_reasons
