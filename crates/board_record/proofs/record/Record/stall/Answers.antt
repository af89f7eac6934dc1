use Rattle.std.proofs.Common.{rules, ◌≡◌, sym, subst}
use Rattle.spec_core.specs.Code.{program_of}
use Rattle.board_tree.specs.Views.{shape}
use Rattle.rule_model.specs.declared.log.Entry.TheVariants.{Stall}
use Rattle.rule_model.specs.States.{after_stall}
use Rattle.board_record.proofs.Growing.{goes_on}
use Rattle.board_record.specs.Records.{state_with}
use Rattle.board_record.specs.Views.{state}
use Rattle.log_states.specs.Possible.{MayStall}
use Rattle.node_trees.specs.Shapes.{stands_for}
use Rattle.board_record.proofs.record.Record.stall.Goals as goal

pub invariant_of-self-2 : goal.invariant_of-self-2
invariant_of-self-2 c =
    let v = c.self.inside in
    let p = program_of v.checked in
    let t = shape v.tree in
    let may = subst (λ z. MayStall (state z) c.args.names.items) (sym c.self.view_is) c.requires.may in
    goes_on p v.clients v.entries.items c.append.new.entries.items (Stall c.args.names) (state_with p t v.session)
    (state_with p t c.stall.new.self) (search rules) (may.some, may.all, c.stall.ensures (stands_for p t)) c.self.invariant

pub returns-clause-state : goal.returns-clause-state
returns-clause-state c =
    let p = program_of c.self.inside.checked in
    let t = shape c.self.inside.tree in
    subst (λ z. state_with p t c.stall.new.self ≡ after_stall (state z)) c.self.view_is
    (c.stall.ensures (stands_for p t))
