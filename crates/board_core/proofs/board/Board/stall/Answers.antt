use Rattle.std.proofs.Common.{ap, subst, sym}
use Rattle.spec_core.specs.Theories.{theory_of}
use Rattle.board_tree.specs.Views.{TreeView, shape}
use Rattle.match_code.specs.Rights.{AreForms}
use Rattle.board_core.specs.contracts.board.Board.{the_view}
use Rattle.board_core.proofs.Giving.{moved, perhaps_more}
use Rattle.board_core.proofs.board.Board.stall.Goals as goal

pub invariant_of-self : goal.invariant_of-self
invariant_of-self c =
    let v = the_view c.self.inside in
    let u = c.stall.new.self in (
      moved v c.self.inside.index u c.stall.ensures.setting (ap shape c.stall.ensures.tree) (ap (λ (t : TreeView). t.next) c.stall.ensures.tree)
          c.self.invariant.0,
      subst (λ k. AreForms (theory_of k.algebra) c.self.inside.forms) (sym c.stall.ensures.setting.0) c.self.invariant.1,
      perhaps_more v.session u c.stall.ensures.setting c.self.invariant.2 c.stall.result _ c.stall.ensures.log c.stall.ensures.same tt,
    )
