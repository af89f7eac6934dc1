use Rattle.static_call_cycles.proofs.Acyclic.{nothing_refused_where_acyclic}
use Rattle.static_call_cycles.proofs.laws.nothing_is_refused_where_acyclic.Goals as goal

pub returns : goal.returns
returns c = nothing_refused_where_acyclic
