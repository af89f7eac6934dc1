use Rattle.std.proofs.Common.{sym, subst, map}
use Rattle.spec_core.specs.Code.{program_of}
use Rattle.board_tree.specs.Views.{shape}
use Rattle.rule_model.specs.Events.{event_of}
use Rattle.board_record.proofs.Growing.{begins}
use Rattle.board_record.specs.Records.{IsRecord, state_with}
use Rattle.node_trees.specs.Shapes.{stands_for}
use Rattle.board_record.proofs.record.Record.new.Goals as goal

pub invariant_of-result : goal.invariant_of-result
invariant_of-result c =
    let p = program_of c.args.checked in
    let t = shape c.in_ok-tree.tree in
    let s = state_with p t c.in_ok-session.session in
    subst (λ z. IsRecord p c.args.clients (map event_of z) s) (sym c.new-3.ensures.items)
    (begins p c.args.clients (stands_for p t) s c.requires.ready c.in_ok-tree.ensures.start (c.in_ok-session.ensures.start (stands_for p t)))
