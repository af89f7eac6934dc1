-- When a session waits for its clients. (This profile.)
use Rattle.std.specs.Prelude.{◌≡◌, []}
use Rattle.rule_model.specs.Legal.{AllWait}
use Rattle.rule_model.specs.States.{State}

-- no offer is pending, and some open client hasn't one: nothing comes next, whatever the behaviour may do
pub record AwaitsClients (s : State) : Type 0 where
  pub none : s.pending ≡ []
  pub some : AllWait s → ⊥
