use Rattle.std.proofs.Common.{◌∙◌, ap}
use Rattle.rule_model.specs.States.{after_action}
use Rattle.log_states.specs.Views.{state_of}
use Rattle.board_record.proofs.ready_act.ready_act.Goals as goal

pub returns-clause-state : goal.returns-clause-state
returns-clause-state c rest =
    c.in_ok-state.ensures rest ∙ ap (λ a. after_action (state_of c.args.session.now) a c.args.by rest) c.in_ok-copy.ensures.equal
