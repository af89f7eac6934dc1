-- Composites may go to other threads.
use denote.Param.Send.{IsSend}
use Rattle.symbolic_plans.proofs.scheme.Scheme.TheLaws.TheKnot as scheme
use Rattle.symbolic_plans.specs.contracts.composite.OpenComposite as composite
use Rattle.symbolic_plans.specs.contracts.scheme.Scheme as scheme_row
use Rattle.spec_core.proofs.Crossing.{simple}

pub scheme_send : IsSend (scheme_row.the_field).row
scheme_send = search (scheme.crosses, simple) depth 60 fits 20000

pub composite_send : IsSend composite.the_row
composite_send = search (scheme_send, simple) depth 60 fits 20000
