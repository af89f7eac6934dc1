-- The state that a value of the program stands for.
use Rattle.rule_model.specs.Behaviours.{behaviour_of}
use Rattle.rule_model.specs.States.{State}
use Rattle.log_check.specs.declared.reached.Reached.{Reached}
use Rattle.log_states.specs.Views.{state_at}

abbrev pub state_of : Reached → State
state_of r = state_at (behaviour_of r.behaviour) r.session
