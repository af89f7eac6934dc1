use Rattle.std.proofs.Common.{◌∙◌, ap}
use Rattle.rule_model.specs.Behaviours.{behaviour_of}
use Rattle.rule_model.specs.States.{start_state}
use Rattle.log_states.specs.Clients.{numbers_from}
use Rattle.log_check.proofs.checking.begin.Goals as goal

pub returns-in_ok-session : goal.returns-in_ok-session
returns-in_ok-session c =
    let b = behaviour_of c.in_ok-behaviour.behaviour in
    record {
      behaviour = b;
      start = c.in_ok-behaviour.ensures.start;
      state = c.in_ok-session.ensures.start b ∙ ap (λ n. start_state b (numbers_from 1 n)) c.greatest_client-clients.ensures;
    }
