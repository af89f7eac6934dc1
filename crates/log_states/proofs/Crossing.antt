-- The state of a session may go to other threads.
use denote.Param.Send.{IsSend, struct_send}
use denote.Struct.Declared as struct
use Rattle.log_states.specs.contracts.state.SessionState as state
use Rattle.spec_core.proofs.Crossing.{simple}

pub state_send : IsSend (state.the_field).row
state_send =
    struct_send (struct.shape state.the_type) (
      search simple depth 60 fits 20000,
      (
        search simple depth 60 fits 20000,
        (
          search simple depth 60 fits 20000,
          (
            search simple depth 60 fits 20000,
            tt,
          ),
        ),
      ),
    )
