use Rattle.symbolic_rules.proofs.Complete.{complete_windows_have_no_beyond}
use Rattle.symbolic_rules.proofs.laws.complete_windows_have_no_beyond.Goals as goal

pub returns : goal.returns
returns c = complete_windows_have_no_beyond
