use Rattle.std.proofs.Common.{map, take}
use Rattle.spec_core.specs.Order.{IsInsideAny}
use Rattle.spec_core.specs.Terms.{term_of, terms}
use Rattle.path_order.proofs.inside.+inside.Given as goal

abbrev pub invariant-is_inside_any-loop-whole : goal.invariant-is_inside_any-loop-whole
invariant-is_inside_any-loop-whole l = IsInsideAny (term_of l.part) (terms (map term_of (take l.whole-index l.all))) → ⊥
