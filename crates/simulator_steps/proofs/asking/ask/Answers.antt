use Rattle.std.proofs.lemmas.Result.{IfOk-weaker}
use Rattle.board_core.specs.Views.{state}
use Rattle.simulator_steps.specs.Asking.{IsAtRest}
use Rattle.simulator_steps.proofs.Asked.{is_answered, keeps_behaviour, last_answers, rests_again}
use Rattle.simulator_steps.proofs.asking.ask.Goals as goal

pub last_answered-requires : goal.last_answered-requires
last_answered-requires c =
    let p = c.in_ok-pend.ensures in
    let s = c.in_ok-settle.ensures in record {
      last =
          last_answers c.args.board.now c.pend.new.board c.settle.new.board c.in_ok-pend.field-0 c.args.offer.now c.requires.rests p.setting
          c.log_is_a_derivation.ensures.ready p.log p.state p.stop s.next;
    }

pub returns-clause-answered : goal.returns-clause-answered
returns-clause-answered c =
    let p = c.in_ok-pend.ensures in
    let s = c.in_ok-settle.ensures in
    IfOk-weaker c.last_answered.result _ _
    (λ a tells.
    is_answered c.args.board.now c.pend.new.board c.settle.new.board c.in_ok-pend.field-0 c.args.offer.now c.requires.rests p.setting
    c.log_is_a_derivation.ensures.ready p.log p.state p.stop s.next a tells)
    c.last_answered.ensures

pub returns-clause-behaviour : goal.returns-clause-behaviour
returns-clause-behaviour c =
    let p = c.in_ok-pend.ensures in
    let s = c.in_ok-settle.ensures in
    IfOk-weaker c.last_answered.result _ _
    (λ a tells.
    keeps_behaviour c.args.board.now c.pend.new.board c.settle.new.board c.in_ok-pend.field-0 c.args.offer.now c.requires.rests p.setting
    c.log_is_a_derivation.ensures.ready p.log p.state p.stop s.next a tells)
    c.last_answered.ensures

pub returns-clause-rests : goal.returns-clause-rests
returns-clause-rests c =
    let p = c.in_ok-pend.ensures in
    let s = c.in_ok-settle.ensures in
    IfOk-weaker c.last_answered.result _ (λ a. IsAtRest (state c.settle.new.board))
    (λ a tells.
    rests_again c.args.board.now c.pend.new.board c.settle.new.board c.in_ok-pend.field-0 c.args.offer.now c.requires.rests p.setting
    c.log_is_a_derivation.ensures.ready p.log p.state p.stop s.next)
    c.last_answered.ensures
