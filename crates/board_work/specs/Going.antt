-- A session goes on. (This profile.)
use Rattle.std.specs.Prelude.{◌≡◌, ◌++◌, List}
use Rattle.spec_core.specs.Lists.{Each}
use Rattle.rule_model.specs.declared.log.Entry.{Entry}
use Rattle.rule_model.specs.Events.{event_of}
use Rattle.board_core.specs.Views.{BoardView, SameSetting}
use Rattle.session_laws.specs.Logs.{IsOfClient}
use Rattle.board_work.specs.Driven.{StaysDriven}

-- The session goes on by itself: its log by entries that no client makes, if by any; and where it was driven it is driven.
pub record GoesOn (old new : BoardView) : Type 0 where
  pub setting : SameSetting old new
  pub more : List Entry
  pub log : new.session.entries ≡ old.session.entries ++ more
  pub own : Each (λ entry. IsOfClient (event_of entry) → ⊥) more
  pub driven : StaysDriven old new
