use Rattle.candidate_verdicts.proofs.Deciding.{shows_decide_queries}
use Rattle.candidate_verdicts.proofs.laws.shows_decide_queries.Goals as goal

pub returns : goal.returns
returns c = shows_decide_queries
