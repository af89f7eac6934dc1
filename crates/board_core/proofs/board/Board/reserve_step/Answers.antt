use Rattle.std.proofs.Common.{ap, subst, sym}
use Rattle.spec_core.specs.Theories.{theory_of}
use Rattle.board_tree.specs.Views.{TreeView, shape}
use Rattle.match_code.specs.Rights.{AreForms}
use Rattle.board_core.specs.contracts.board.Board.{the_view}
use Rattle.board_core.proofs.Giving.{moved, nothing_more}
use Rattle.board_core.proofs.board.Board.reserve_step.Goals as goal

pub invariant_of-self : goal.invariant_of-self
invariant_of-self c =
    let v = the_view c.self.inside in
    let u = c.reserve_act.new.self in (
      moved v c.self.inside.index u c.reserve_act.ensures.setting (c.reserve_act.ensures.tree.0) (c.reserve_act.ensures.tree.1)
          c.self.invariant.0,
      subst (λ k. AreForms (theory_of k.algebra) c.self.inside.forms) (sym c.reserve_act.ensures.setting.0) c.self.invariant.1,
      nothing_more v.session u c.reserve_act.ensures.setting c.self.invariant.2 c.reserve_act.ensures.same.0,
    )
