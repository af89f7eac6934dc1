-- When an offer may be taken on a board.
use Rattle.std.specs.Prelude.{ℕ, ◌≡◌, ◌<◌, None, Some}
use Rattle.rule_model.specs.Answering.{name_of}
use Rattle.rule_model.specs.Derivations.{Derivation}
use Rattle.board_laws.specs.Next.{GoesByRules}
use Rattle.board_offers.specs.Offers.{offer_at}
use Rattle.board_core.specs.Settled.{MayFollow}
use Rattle.board_core.specs.Views.{BoardView, program, state, tree}

-- by these rules the offer with a number may be taken, and the session goes on
pub record MayTake (v : BoardView) (number : ℕ) (d : Derivation) : Type 0 where
  pub running : v.stop ≡ None
  pub rules : GoesByRules (state v)
  pub below : (state v).actions < v.settings.steps
  pub may : MayFollow (program v) (state v) (tree v) (Some (name_of (offer_at (state v).pending number))) d
