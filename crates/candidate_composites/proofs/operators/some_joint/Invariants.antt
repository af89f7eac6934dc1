use Rattle.std.proofs.Common.{◌≡◌, drop, filter, map}
use Rattle.spec_core.specs.Code.{synchronised_of}
use Rattle.candidate_composites.specs.Contexts.{some_joint}
use Rattle.candidate_composites.specs.Kept.{keeps}
use Rattle.candidate_composites.specs.Known.{found_of, sought_in}
use Rattle.candidate_composites.proofs.operators.some_joint.Given as goal

abbrev pub invariant-loop-found : goal.invariant-loop-found
invariant-loop-found l =
    some_joint (synchronised_of l.gates) (filter (keeps (sought_in l.sought)) (map found_of l.those)) ≡
    some_joint (synchronised_of l.gates) (filter (keeps (sought_in l.sought)) (map found_of (drop l.found-index l.those)))
