-- Entries that the program finds.
use Rattle.std.specs.Prelude.{Option, option_map}
use Rattle.rule_model.specs.declared.rules.Rules.{Rules}
use Rattle.rule_model.specs.Derivations.{Derivation, derivation_of}
use Rattle.rule_model.specs.States.{PendingOffer}
use Rattle.decision_trees.specs.Rules.{Next}
use Rattle.decision_order.specs.declared.settle.Settled.{Settled}
use Rattle.decision_order.specs.declared.settle.Settled.TheVariants.{Takes, GoesOn}
use Rattle.decision_order.specs.Numbered.{entry_with}
use Rattle.decision_order.specs.Searches.{settled_of}
use Rattle.board_offers.specs.Offers.{offer_at}
use Rattle.board_core.specs.Views.{BoardView, state}

-- the entry that is found on a board, whose offers are its pending ones by their places; none where it isn't decided
abbrev pub entry_of : BoardView → Settled Rules → Option (Next PendingOffer Derivation)
entry_of v s = option_map (entry_with (offer_at (state v).pending)) (settled_of derivation_of s)

-- it is an action
abbrev pub OfAct : Settled Rules → Type 0
OfAct (Takes p rules) = Unit {0}
OfAct (GoesOn those) = Unit {0}
OfAct _ = ⊥
