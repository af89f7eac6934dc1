use Rattle.std.specs.Prelude.{IfErr}
use Rattle.board_record.specs.Faults.{ExplainsLeave}
use Rattle.board_core.specs.Views.{BoardView, state}
use Rattle.std.proofs.Common.{ap, subst, sym}
use Rattle.spec_core.specs.Theories.{theory_of}
use Rattle.board_tree.specs.Views.{TreeView, shape}
use Rattle.match_code.specs.Rights.{AreForms}
use Rattle.board_core.specs.contracts.board.Board.{the_view}
use Rattle.board_core.proofs.Giving.{moved, perhaps_more}
use Rattle.board_core.proofs.board.Board.leave.Goals as goal

pub invariant_of-self : goal.invariant_of-self
invariant_of-self c =
    let v = the_view c.self.inside in
    let u = c.leave.new.self in (
      moved v c.self.inside.index u c.leave.ensures.setting (ap shape c.leave.ensures.tree) (ap (λ (t : TreeView). t.next) c.leave.ensures.tree)
          c.self.invariant.0,
      subst (λ k. AreForms (theory_of k.algebra) c.self.inside.forms) (sym c.leave.ensures.setting.0) c.self.invariant.1,
      perhaps_more v.session u c.leave.ensures.setting c.self.invariant.2 c.leave.result _ c.leave.ensures.log c.leave.ensures.same tt,
    )

pub returns-clause-fault : goal.returns-clause-fault
returns-clause-fault c =
    subst (λ (z : BoardView). IfErr c.leave.result (ExplainsLeave (state z) c.args.client)) c.self.view_is c.leave.ensures.fault
