use Rattle.spec_core.specs.Code.{program_of}
use Rattle.rule_model.specs.Behaviours.{behaviour_of}
use Rattle.rule_model.specs.Events.{left}
use Rattle.log_check.proofs.Becoming.{becomes_so}
use Rattle.log_check.specs.Views.{state_of}
use Rattle.log_check.proofs.entry.leave.Goals as goal

pub returns-clause-next : goal.returns-clause-next
returns-clause-next c =
    let s = c.args.state.now in
    let b = behaviour_of s.behaviour in
    becomes_so (program_of c.args.checked.now) (state_of s) (state_of (record { behaviour = s.behaviour; session = c.leave.new.self }))
    (left c.args.client) c.in_ok-leave.field-0
    (λ so. let m = c.in_ok-leave.ensures.left so b in (m.0.is_open, m.0.idle, m.1))
    (λ not next h. (c.in_ok-leave.ensures.refused not b).0 (record { is_open = h.0; idle = h.1 }))
