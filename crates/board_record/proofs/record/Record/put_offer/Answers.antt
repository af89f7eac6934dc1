use Rattle.std.proofs.Common.{rules, ◌≡◌, ◌+◌, ◌<◌, ap, sym, subst, map, length, Contains}
use Rattle.spec_core.specs.Code.{program_of}
use Rattle.board_tree.specs.Views.{shape}
use Rattle.rule_model.specs.declared.log.Entry.TheVariants.{Pend}
use Rattle.rule_model.specs.Events.{event_of, pended}
use Rattle.rule_model.specs.Legal.{IsIdle, IsPossible}
use Rattle.rule_model.specs.States.{after_offer}
use Rattle.board_record.proofs.Growing.{goes_on, on_error, stays}
use Rattle.board_record.specs.contracts.record.Record.{the_view}
use Rattle.board_record.specs.Records.{state_with}
use Rattle.board_record.specs.Views.{state, SameLog}
use Rattle.log_states.specs.Views.{state_of}
use Rattle.node_trees.specs.Shapes.{stands_for}
use Rattle.board_record.proofs.record.Record.put_offer.Goals as goal

pub invariant_of-self-2 : goal.invariant_of-self-2
invariant_of-self-2 c =
    let v = c.self.inside in
    let p = program_of v.checked in
    let t = shape v.tree in
    let s = state_with p t v.session in
    let u = state_with p t c.put_offer.new.self in
    let number = c.in-Some.number in
    let opened = subst (λ z. Contains (state z).open_clients c.args.client) (sym c.self.view_is) c.requires.open in
    let idle = subst (λ z. IsIdle (state z) c.args.client) (sym c.self.view_is) c.requires.idle in
    let next : number ≡ (state_of v.session).made c.args.client + 1 = search rules in
    let gate : c.args.offer.now.gate.0 < length p.gates = search rules in
    goes_on p v.clients v.entries.items c.append.new.entries.items (Pend c.args.client number c.in_ok-copy.field-0 c.args.ask) s u (search rules)
    (subst (λ o. IsPossible p s (pended c.args.client number o c.args.ask) u) (sym c.in_ok-copy.ensures.equal)
    (opened, idle, next, gate, c.in_ok-put_offer.ensures.made (stands_for p t)))
    c.self.invariant

pub invariant_of-self-in_err-put_offer : goal.invariant_of-self-in_err-put_offer
invariant_of-self-in_err-put_offer c =
    let v = c.self.inside in
    let p = program_of v.checked in
    let t = shape v.tree in
    stays p v.clients v.entries.items c.reserve.new.self.items (state_with p t v.session) (state_with p t c.put_offer.new.self) (search rules)
    (c.in_err-put_offer.ensures.same (stands_for p t)) c.self.invariant

pub returns-in_err-put_offer-clause-same : goal.returns-in_err-put_offer-clause-same
returns-in_err-put_offer-clause-same c =
    let v = c.self.inside in
    let new = the_view (record {
      checked = v.checked;
      clients = v.clients;
      entries = c.reserve.new.self;
      session = c.put_offer.new.self;
      tree = v.tree;
      ready = v.ready;
    }) in
    let same : c.reserve.new.self.items ≡ v.entries.items = search rules in
    on_error c.from_residual-in_err-put_offer.result
    (subst (λ z. SameLog z new) c.self.view_is
    (ap (map event_of) same, c.in_err-put_offer.ensures.same (stands_for (program_of v.checked) (shape v.tree)), same))

pub returns-clause-one_more : goal.returns-clause-one_more
returns-clause-one_more c = (Pend c.args.client c.in-Some.number c.in_ok-copy.field-0 c.args.ask, search rules)

pub returns-clause-state : goal.returns-clause-state
returns-clause-state c =
    let p = program_of c.self.inside.checked in
    let t = shape c.self.inside.tree in
    subst (λ z. state_with p t c.put_offer.new.self ≡ after_offer (state z) c.args.client c.in-Some.number c.args.offer.now c.args.ask) c.self.view_is
    (c.in_ok-put_offer.ensures.made (stands_for p t))
