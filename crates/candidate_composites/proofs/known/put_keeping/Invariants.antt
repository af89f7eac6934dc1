use Rattle.std.proofs.Common.{◌≡◌, ◌++◌, filter, map}
use Rattle.candidate_composites.specs.Contexts.{all_through, turns_of}
use Rattle.candidate_composites.specs.Kept.{keeps}
use Rattle.candidate_composites.specs.Known.{found_of, sought_in}
use Rattle.candidate_composites.proofs.known.put_keeping.Given as goal

abbrev pub invariant-loop-found : goal.invariant-loop-found
invariant-loop-found l =
    map found_of l.all.items ≡
    map found_of l.initial.all.items ++ all_through (turns_of l.context) (filter (keeps (sought_in l.sought)) (map found_of l.yielded))
