use Rattle.std.proofs.Common.{◌≡◌, take}
use Rattle.path_order.specs.Mentioning.{AreNoted}
use Rattle.spec_core.specs.Lists.{OneOf}
use Rattle.spec_core.specs.Order.{HasOperation}
use Rattle.spec_core.specs.Terms.{term_of}
use Rattle.path_order.proofs.mentions.Mentions.+noting.Given as goal

abbrev pub invariant-note_terms-loop-term : goal.invariant-note_terms-loop-term
invariant-note_terms-loop-term l = AreNoted (λ g h. OneOf (λ t. HasOperation g (term_of t) × (h ≡ l.head.0)) (take l.term-index l.all)) l.initial.self l.self
