use Rattle.std.specs.Prelude.{IfErr}
use Rattle.board_record.specs.Faults.{ExplainsPend}
use Rattle.board_core.specs.Views.{BoardView, program, state}
use Rattle.std.proofs.Common.{ap, subst, sym}
use Rattle.spec_core.specs.Theories.{theory_of}
use Rattle.board_tree.specs.Views.{TreeView, shape}
use Rattle.match_code.specs.Rights.{AreForms}
use Rattle.board_core.specs.contracts.board.Board.{the_view}
use Rattle.board_laws.specs.JobValues.{GivesValues}
use Rattle.board_core.proofs.Giving.{moved, offered}
use Rattle.board_core.proofs.board.Board.pend.Goals as goal

pub invariant_of-self : goal.invariant_of-self
invariant_of-self c =
    let v = the_view c.self.inside in
    let u = c.pend.new.self in (
      moved v c.self.inside.index u c.pend.ensures.setting (ap shape c.pend.ensures.tree) (ap (λ (t : TreeView). t.next) c.pend.ensures.tree)
          c.self.invariant.0,
      subst (λ k. AreForms (theory_of k.algebra) c.self.inside.forms) (sym c.pend.ensures.setting.0) c.self.invariant.1,
      offered v.session u c.pend.ensures.setting c.self.invariant.2 c.pend.result c.args.client c.args.offer.now c.args.ask c.pend.ensures.log
          c.pend.ensures.same (subst (λ (z : BoardView). GivesValues (program z).theory c.args.offer.now) (sym c.self.view_is) c.requires.values),
    )

pub returns-clause-fault : goal.returns-clause-fault
returns-clause-fault c =
    subst (λ (z : BoardView). IfErr c.pend.result (ExplainsPend (program z) (state z) c.args.client c.args.offer.now)) c.self.view_is
    c.pend.ensures.fault
