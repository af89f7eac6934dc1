use Rattle.std.proofs.Common.{◌≡◌, ◌+◌, length}
use Rattle.candidates.specs.Walks.{ahead}
use Rattle.candidates.proofs.walk.Walk.next.Given as goal

abbrev pub invariant-loop-tree : goal.invariant-loop-tree
invariant-loop-tree l = ahead l.initial.self ≡ ahead l.self

abbrev pub decreases-loop-tree : goal.decreases-loop-tree
decreases-loop-tree l = length l.self.composites.now + length l.self.parts.now
