use Rattle.std.proofs.Common.{rules, ◌≡◌, ◌<◌, length, subst, sym}
use Rattle.spec_core.specs.Code.{program_of}
use Rattle.rule_model.specs.Behaviours.{behaviour_of}
use Rattle.rule_model.specs.Events.{pended}
use Rattle.log_check.proofs.Becoming.{becomes_so}
use Rattle.log_check.specs.Views.{state_of}
use Rattle.log_check.proofs.entry.offer.Goals as goal

pub returns-clause-next : goal.returns-clause-next
returns-clause-next c =
    let p = program_of c.args.checked.now in
    let s = c.args.state.now in
    let b = behaviour_of s.behaviour in
    let count : c.len.result ≡ length p.gates = search rules in
    becomes_so p (state_of s) (state_of (record { behaviour = s.behaviour; session = c.offer.new.self }))
    (pended c.args.client c.args.number c.args.offered.now c.args.ask) c.in_ok-offer.field-0
    (λ so.
    let m = c.in_ok-offer.ensures.made so b in
    (m.0.is_open, m.0.idle, m.0.next, subst (λ n. c.args.offered.now.gate.0 < n) count m.0.gate, m.1))
    (λ not next h.
    (c.in_ok-offer.ensures.refused not b).0
    (record { is_open = h.0; idle = h.1; next = h.2; gate = subst (λ n. c.args.offered.now.gate.0 < n) (sym count) h.3 }))
