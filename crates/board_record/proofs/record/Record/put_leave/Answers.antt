use Rattle.std.proofs.Common.{rules, ◌≡◌, ap, sym, subst, map}
use Rattle.spec_core.specs.Code.{program_of}
use Rattle.board_tree.specs.Views.{shape}
use Rattle.rule_model.specs.declared.log.Entry.TheVariants.{Leave}
use Rattle.rule_model.specs.Events.{event_of}
use Rattle.rule_model.specs.States.{after_leave}
use Rattle.board_record.proofs.Growing.{goes_on, on_error, stays}
use Rattle.board_record.specs.contracts.record.Record.{the_view}
use Rattle.board_record.specs.Records.{state_with}
use Rattle.board_record.specs.Views.{state, SameLog}
use Rattle.log_states.specs.Possible.{MayLeave}
use Rattle.node_trees.specs.Shapes.{stands_for}
use Rattle.board_record.proofs.record.Record.put_leave.Goals as goal

pub invariant_of-self-2 : goal.invariant_of-self-2
invariant_of-self-2 c =
    let v = c.self.inside in
    let p = program_of v.checked in
    let t = shape v.tree in
    let may = subst (λ z. MayLeave (state z) c.args.client) (sym c.self.view_is) c.requires.may in
    goes_on p v.clients v.entries.items c.append.new.entries.items (Leave c.args.client) (state_with p t v.session)
    (state_with p t c.put_leave.new.self) (search rules) (may.is_open, may.idle, c.in_ok-put_leave.ensures.left (stands_for p t)) c.self.invariant

pub invariant_of-self-in_err-put_leave : goal.invariant_of-self-in_err-put_leave
invariant_of-self-in_err-put_leave c =
    let v = c.self.inside in
    let p = program_of v.checked in
    let t = shape v.tree in
    stays p v.clients v.entries.items c.reserve.new.self.items (state_with p t v.session) (state_with p t c.put_leave.new.self) (search rules)
    (c.in_err-put_leave.ensures.same (stands_for p t)) c.self.invariant

pub returns-in_err-put_leave-clause-same : goal.returns-in_err-put_leave-clause-same
returns-in_err-put_leave-clause-same c =
    let v = c.self.inside in
    let new = the_view (record {
      checked = v.checked;
      clients = v.clients;
      entries = c.reserve.new.self;
      session = c.put_leave.new.self;
      tree = v.tree;
      ready = v.ready;
    }) in
    let same : c.reserve.new.self.items ≡ v.entries.items = search rules in
    on_error c.from_residual-in_err-put_leave.result
    (subst (λ z. SameLog z new) c.self.view_is
    (ap (map event_of) same, c.in_err-put_leave.ensures.same (stands_for (program_of v.checked) (shape v.tree)), same))

pub returns-clause-one_more : goal.returns-clause-one_more
returns-clause-one_more c = (Leave c.args.client, search rules)

pub returns-clause-state : goal.returns-clause-state
returns-clause-state c =
    let p = program_of c.self.inside.checked in
    let t = shape c.self.inside.tree in
    subst (λ z. state_with p t c.put_leave.new.self ≡ after_leave (state z) c.args.client) c.self.view_is
    (c.in_ok-put_leave.ensures.left (stands_for p t))
