use Rattle.std.proofs.Common.{◌≡◌, filter, map, flat_map, take}
use Rattle.spec_core.specs.Code.{synchronised_of}
use Rattle.spec_core.specs.Theories.{theory_of}
use Rattle.candidate_laws.specs.Sought.{with_another}
use Rattle.candidate_composites.specs.Kept.{keeps, kept_partners}
use Rattle.candidate_composites.specs.Known.{found_of, sought_in, stepped}
use Rattle.candidate_composites.proofs.operators.all_together.Given as goal

abbrev pub invariant-loop-part : goal.invariant-loop-part
invariant-loop-part l =
    map found_of l.all.items ≡
    flat_map (stepped (with_another (synchronised_of l.gates))
    (kept_partners (theory_of l.algebra) (synchronised_of l.gates) (sought_in l.sought) (map found_of l.right)))
    (filter (keeps (sought_in l.below)) (map found_of (take l.part-index l.left)))
