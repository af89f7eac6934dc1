use Rattle.std.proofs.Common.{rules, ◌≡◌, ◌∙◌, false, true, subst, sym}
use Rattle.session_board.specs.Growing.{GrowsByNone}
use Rattle.session_board.specs.Shared.{SharedView}
use Rattle.session_board.specs.Turning.{ComesOfTurn}
use Rattle.session_board.proofs.Growing.{grows_by_none}
use Rattle.session_board.proofs.Resting.{rests_again}
use Rattle.session_board.proofs.Sharing.{goes_on_driven}
use Rattle.session_board.proofs.shared.SharedBoard.step.Goals as goal

pub returns-in-Ok-clause-turn : goal.returns-in-Ok-clause-turn
returns-in-Ok-clause-turn c =
    subst (λ (z : SharedView). ComesOfTurn z.board c.one_step.new.board c.in-Ok.turn) c.self.view_is c.in-Ok.ensures.turn

pub returns-in-Ok-clause-none : goal.returns-in-Ok-clause-none
returns-in-Ok-clause-none c =
    let old : SharedView = record { board = c.self.inside.board; halted = c.self.inside.halted } in
    let new : SharedView = record { board = c.one_step.new.board; halted = c.self.inside.halted } in
    let g = c.one_step.ensures.goes_on in
    let running : c.self.inside.halted ≡ false = search rules in
    subst (λ (z : SharedView). GrowsByNone z new) c.self.view_is (grows_by_none old new g.more running g.log g.own)

pub returns-in-Err-clause-none : goal.returns-in-Err-clause-none
returns-in-Err-clause-none c =
    let old : SharedView = record { board = c.self.inside.board; halted = c.self.inside.halted } in
    let new : SharedView = record { board = c.one_step.new.board; halted = true } in
    let g = c.one_step.ensures.goes_on in
    let running : c.self.inside.halted ≡ false = search rules in
    subst (λ (z : SharedView). GrowsByNone z new) c.self.view_is (grows_by_none old new g.more running g.log g.own)

pub returns-in-Ok-clause-driven : goal.returns-in-Ok-clause-driven
returns-in-Ok-clause-driven c =
    goes_on_driven c.self.inside.board c.one_step.new.board c.one_step.ensures.goes_on c.self.invariant.driven

pub returns-in-Err-clause-driven : goal.returns-in-Err-clause-driven
returns-in-Err-clause-driven c =
    goes_on_driven c.self.inside.board c.one_step.new.board c.one_step.ensures.goes_on c.self.invariant.driven

pub invariant_of-self : goal.invariant_of-self
invariant_of-self c = record {
  driven = goes_on_driven c.self.inside.board c.one_step.new.board c.one_step.ensures.goes_on c.self.invariant.driven;
  idle =
      λ idle.
      let r = c.rests-self-inside.ensures idle in
      rests_again c.self.inside.board c.one_step.new.board c.in-Ok.turn r.0 c.in-Ok.ensures.turn c.in-Ok.ensures.still
      (sym c.stopped-after.ensures ∙ r.1 ∙ c.stopped-before.ensures);
}
