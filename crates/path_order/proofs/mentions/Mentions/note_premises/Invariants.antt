use Rattle.std.proofs.Common.{◌≡◌, take}
use Rattle.path_order.specs.Mentioning.{AreNoted}
use Rattle.path_order.proofs.Noting.{HasOperationAt}
use Rattle.spec_core.specs.Lists.{OneOf}
use Rattle.path_order.proofs.mentions.Mentions.note_premises.Given as goal

abbrev pub invariant-loop-premise : goal.invariant-loop-premise
invariant-loop-premise l = AreNoted (λ g h. OneOf (λ p. HasOperationAt p g × (h ≡ l.head.0)) (take l.premise-index l.premises)) l.initial.self l.self
