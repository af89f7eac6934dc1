use Rattle.static_uniqueness.proofs.Determined.{tokens_determine}
use Rattle.static_uniqueness.proofs.trees.tokens_determine_specifications.Goals as goal

pub returns : goal.returns
returns c = tokens_determine c.reading_has_at_most_one_result.ensures.one_tree
