-- What is done when a session is closed. (This profile.)
use Rattle.std.specs.Prelude.{ℕ, ◌≡◌, ◌⊎◌, ◌++◌, [], ◌∷◌, List, Contains, filter, map, nat_eq, not}
use Rattle.std.specs.List.Sorted.{IsStrictlyIncreasing}
use Rattle.spec_core.specs.Lists.{Each}
use Rattle.rule_model.specs.Events.{Event, left}
use Rattle.board_core.specs.Views.{BoardView, events, state, SameSetting}
use Rattle.session_laws.specs.Logs.{IsOfClient}
use Rattle.board_work.specs.Driven.{StaysDriven}

-- The log goes on: each open client leaves, in ascending order; and then by entries that no client makes, if by any.
pub record IsClosedOff (v : BoardView) (log : List Event) : Type 0 where
  pub rest : List Event
  pub goes_on : log ≡ events v ++ map left (state v).open_clients ++ rest
  pub ascending : IsStrictlyIncreasing (state v).open_clients
  pub own : Each (λ event. IsOfClient event → ⊥) rest

-- The client was open, and one entry tells that it leaves.
pub record HasLeftNow (client : ℕ) (old new : BoardView) : Type 0 where
  pub was_open : Contains (state old).open_clients client
  pub log : events new ≡ events old ++ left client ∷ []
  pub clients : (state new).open_clients ≡ filter (λ other. not (nat_eq other client)) (state old).open_clients

-- It wasn't open, and there is no entry.
pub record HasNotLeft (client : ℕ) (old new : BoardView) : Type 0 where
  pub was_not_open : Contains (state old).open_clients client → ⊥
  pub log : events new ≡ events old
  pub clients : (state new).open_clients ≡ (state old).open_clients

-- The client leaves, if it is open; a driven log stays driven, and the same offers are pending.
pub record LeavesIfOpen (client : ℕ) (old new : BoardView) : Type 0 where
  pub setting : SameSetting old new
  pub driven : StaysDriven old new
  pub pending : (state new).pending ≡ (state old).pending
  pub leaves : HasLeftNow client old new ⊎ HasNotLeft client old new

-- All clients that are open leave, in ascending order; a driven log stays driven.
pub record AllLeave (old new : BoardView) : Type 0 where
  pub setting : SameSetting old new
  pub driven : StaysDriven old new
  pub log : events new ≡ events old ++ map left (state old).open_clients
  pub ascending : IsStrictlyIncreasing (state old).open_clients
  pub closed : (state new).open_clients ≡ []
