use Rattle.candidate_count.proofs.Below.{trees_have_no_more_offers}
use Rattle.candidate_count.proofs.laws.trees_have_no_more_offers.Goals as goal

pub returns : goal.returns
returns c = trees_have_no_more_offers
