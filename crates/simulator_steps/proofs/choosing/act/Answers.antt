use Rattle.std.proofs.Common.{subst}
use Rattle.board_record.specs.Views.{HasActed}
use Rattle.simulator_steps.proofs.Stepping.{at_heading, has_spelled, log_goes_on}
use Rattle.simulator_steps.proofs.choosing.act.Goals as goal

pub offered-requires-clause-gate : goal.offered-requires-clause-gate
offered-requires-clause-gate c =
    let l = c.log_is_a_derivation.ensures in
    at_heading c.args.board.now c.args.board.now.session.clients l.ready l.session c.actions_are_at_gates_of_the_heading.ensures c.args.step.now
    c.requires.step c.in_ok-action.action c.in_ok-action.ensures.equal

pub offered-requires-clause-values : goal.offered-requires-clause-values
offered-requires-clause-values c =
    has_spelled c.args.board.now c.args.step.now c.requires.step c.in_ok-action.action c.in_ok-action.ensures.equal

pub returns-clause-log : goal.returns-clause-log
returns-clause-log c =
    let o = c.in_ok-by.ensures in
    let r = c.in_ok-reserve_step.ensures in (
      o.offered.0,
      log_goes_on c.args.board.now c.offered.new.board c.reserve_step.new.self c.args.step.now c.requires.step c.in_ok-action.action
          c.in_ok-action.ensures.equal o.setting o.behaviour r.session r.log c.log_is_a_derivation.ensures.ready c.commit.new.self c.in_ok-by.by
          (subst (λ d. HasActed c.reserve_step.new.self.session c.commit.new.self.session d c.in_ok-by.by) c.in_ok-rules.ensures.equal c.commit.ensures.acted)
          o.offered.0 o.offered.1 o.offered.2,
    )
