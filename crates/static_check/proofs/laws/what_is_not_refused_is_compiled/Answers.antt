use Rattle.static_check.proofs.AllRead.{unrefused_is_compiled}
use Rattle.static_check.proofs.laws.what_is_not_refused_is_compiled.Goals as goal

pub returns : goal.returns
returns c = unrefused_is_compiled
