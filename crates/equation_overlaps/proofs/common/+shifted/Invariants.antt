use Rattle.std.proofs.Common.{◌≡◌, ◌+◌, map, take}
use Rattle.spec_core.specs.Terms.{variable, instances, term_of, terms}
use Rattle.equation_overlaps.proofs.common.+shifted.Given as goal

abbrev pub invariant-loop-part : goal.invariant-loop-part
invariant-loop-part l =
    terms (map term_of l.all.items) ≡ instances (λ y. variable (l.count + y)) (terms (map term_of (take l.part-index l.part-items)))
