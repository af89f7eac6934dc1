use Rattle.candidate_search.proofs.Found.{searches_find_all}
use Rattle.candidate_search.proofs.laws.searches_find_all.Goals as goal

pub returns : goal.returns
returns c = searches_find_all
