use Rattle.std.proofs.Common.{rules, ◌≡◌, refl, subst, sym, Some}
use Rattle.spec_core.specs.Code.{program_of}
use Rattle.board_tree.specs.Steps.{Follows}
use Rattle.board_tree.specs.Views.{shape}
use Rattle.rule_model.specs.declared.log.Entry.TheVariants as entry
use Rattle.rule_model.specs.Derivations.{derivation_of}
use Rattle.board_record.proofs.Acting.{acts, agreed_then, derives_then, events_then, state_then}
use Rattle.board_record.specs.contracts.record.Record.{the_view}
use Rattle.board_record.specs.Records.{IsReadied, MayAct, state_with}
use Rattle.board_record.specs.Views.{program, state, HasActed, IsActReserved}
use Rattle.node_trees.specs.Shapes.{IsRight}
use Rattle.board_record.proofs.record.Record.act.Goals as goal

pub invariant_of-self : goal.invariant_of-self
invariant_of-self c =
    let v = c.self.inside in
    let p = program_of v.checked in
    let t = shape v.tree in
    let d = derivation_of c.args.rules in
    let r = c.in-Some.ready in
    let is = sym c.self.view_is in
    let reserved = subst (λ z. IsActReserved z d c.args.by) is c.requires.reserved in
    let may = subst (λ z. MayAct (program z) (state z) d c.args.by) is c.requires.may in
    let right = subst (λ z. IsRight (program z) (shape z.tree)) is c.requires.right in
    let follows = subst (λ z. Follows (shape z.tree) d) is c.requires.follows in
    let there : v.ready ≡ Some r = search rules in
    let readied = subst (IsReadied (state_with p t v.session) c.args.by v.tree.ready) there reserved.act in
    acts p t v.session d c.args.by v.tree.ready r (shape c.step.new.self) readied (entry.Act r.action c.args.rules c.args.by) refl
    v.tree.next c.step.new.self.next c.step.new.self.gone c.step.new.self.came may right follows reserved.tree c.step.ensures.step v.clients
    v.entries.items c.append.new.entries.items (search rules) c.self.invariant

pub returns-clause-acted : goal.returns-clause-acted
returns-clause-acted c =
    let v = c.self.inside in
    let p = program_of v.checked in
    let t = shape v.tree in
    let d = derivation_of c.args.rules in
    let r = c.in-Some.ready in
    let n = c.step.new.self in
    let done = entry.Act r.action c.args.rules c.args.by in
    let is = sym c.self.view_is in
    let reserved = subst (λ z. IsActReserved z d c.args.by) is c.requires.reserved in
    let may = subst (λ z. MayAct (program z) (state z) d c.args.by) is c.requires.may in
    let right = subst (λ z. IsRight (program z) (shape z.tree)) is c.requires.right in
    let follows = subst (λ z. Follows (shape z.tree) d) is c.requires.follows in
    let there : v.ready ≡ Some r = search rules in
    let readied = subst (IsReadied (state_with p t v.session) c.args.by v.tree.ready) there reserved.act in
    let new = the_view (record {
      checked = v.checked;
      clients = v.clients;
      entries = c.append.new.entries;
      session = r.state;
      tree = n;
      ready = c.take.new.self;
    }) in
    subst (λ z. HasActed z new d c.args.by) c.self.view_is
    (record {
      action = r.action;
      derives =
          derives_then p t v.session d c.args.by v.tree.ready r (shape n) readied done refl v.tree.next n.next n.gone n.came may
          right follows reserved.tree c.step.ensures.step;
      agreed =
          agreed_then p t v.session d c.args.by v.tree.ready r (shape n) readied done refl v.tree.next n.next n.gone n.came may
          right follows reserved.tree c.step.ensures.step;
      log = events_then p t v.session d c.args.by v.tree.ready r (shape n) readied done refl v.entries.items c.append.new.entries.items (search rules);
      one_more = (done, search rules);
      state = state_then p t v.session d c.args.by v.tree.ready r (shape n) readied;
    })
