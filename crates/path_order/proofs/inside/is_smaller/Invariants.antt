use Rattle.std.proofs.Common.{◌↔◌, map}
use Rattle.spec_core.specs.Order.{IsSmaller}
use Rattle.spec_core.specs.Terms.{term_of, terms}
use Rattle.path_order.proofs.Smaller.{SmallerFrom}
use Rattle.path_order.proofs.inside.is_smaller.Given as goal

-- nothing has decided so far
abbrev pub invariant-loop-i : goal.invariant-loop-i
invariant-loop-i l = SmallerFrom l.i l.left l.right ↔ IsSmaller (terms (map term_of l.left)) (terms (map term_of l.right))
