use Rattle.std.proofs.Common.{◌≡◌, length}
use Rattle.offer_index.specs.Left.{plans_left}
use Rattle.offer_index.proofs.index.Offers.next.Given as goal

abbrev pub invariant-loop-self : goal.invariant-loop-self
invariant-loop-self l = plans_left l.initial.self ≡ plans_left l.self

abbrev pub decreases-loop-self : goal.decreases-loop-self
decreases-loop-self l = length l.self.composites.now
