use Rattle.std.proofs.Common.{refl}
use Rattle.static_laws.proofs.OpensRows.{construct-calls}
use Rattle.static_laws.proofs.compiled.calls_at_once_are_written.Goals as goal

pub returns : goal.returns
returns c = λ program s from b r refusals read at p call. (construct-calls program p read s refl).at_once at call
