use Rattle.std.proofs.Common.{map, take}
use Rattle.path_order.specs.Below.{IsBelowBy}
use Rattle.path_order.specs.Decrease.{premise_sides}
use Rattle.spec_core.specs.Lists.{Each}
use Rattle.spec_core.specs.Terms.{term_of, terms}
use Rattle.spec_core.specs.Theories.{theory_of, premise_of}
use Rattle.path_order.proofs.sides.first_not_below.Given as goal

abbrev pub invariant-loop-premise : goal.invariant-loop-premise
invariant-loop-premise l =
    Each (IsBelowBy (theory_of l.algebra) l.level.found.keys (terms (map term_of l.args))) (premise_sides (map premise_of (take l.premise-index l.premise-items)))
