use Rattle.std.proofs.Common.{◌≡◌, map, take}
use Rattle.spec_core.specs.Terms.{term_of, terms}
use Rattle.equation_overlaps.specs.Common.{common_instances}
use Rattle.equation_overlaps.proofs.common.+common.Given as goal

abbrev pub invariant-common_instances-loop-i : goal.invariant-common_instances-loop-i
invariant-common_instances-loop-i l =
    terms (map term_of l.all.items) ≡
    common_instances l.count (terms (map term_of (take l.i l.left))) (terms (map term_of (take l.i l.right)))
